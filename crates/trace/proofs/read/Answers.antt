-- The tests say whether the line is passed over, and its first word is the name.
use Rattle.std.proofs.Common.{sym, ap, ◌∙◌}
use Rattle.std.specs.Option.{unwrap_or}
use Rattle.trace.specs.declared.Event.TheVariants.{Unreadable}
use Rattle.trace.specs.Words.{rest}
use Rattle.trace.proofs.Events.{event_comment, event_long, event_blank, event_named, event_unnamed, repaged, relisted}
use Rattle.trace.proofs.read.Goals as goal

pub returns-then-is_comment-clause-value : goal.returns-then-is_comment-clause-value
returns-then-is_comment-clause-value c = event_comment c.args.line.now (sym c.is_comment.ensures ∙ c.if-is_comment.true)

pub returns-then-line-gt-LONGEST-clause-value : goal.returns-then-line-gt-LONGEST-clause-value
returns-then-line-gt-LONGEST-clause-value c = event_long c.args.line.now (sym c.is_comment.ensures ∙ c.if-is_comment.false) c.if-line-gt-LONGEST.true

pub returns-in_default-clause-value : goal.returns-in_default-clause-value
returns-in_default-clause-value c = event_blank c.args.line.now (sym c.is_comment.ensures ∙ c.if-is_comment.false) c.if-line-gt-LONGEST.false c.in_default.ensures.steps.0

pub returns-in_default-name_of-clause-value : goal.returns-in_default-name_of-clause-value
returns-in_default-name_of-clause-value c =
    event_unnamed c.args.line.now (sym c.is_comment.ensures ∙ c.if-is_comment.false) c.if-line-gt-LONGEST.false _ _ c.in-Some.ensures.steps c.in_default-name_of.ensures

pub returns-clause-value : goal.returns-clause-value
returns-clause-value c =
    c.unwrap_or.ensures
    ∙ c.read_named.ensures.value
    ∙ event_named c.args.line.now (sym c.is_comment.ensures ∙ c.if-is_comment.false) c.if-line-gt-LONGEST.false _ _ c.in-Some.ensures.steps _ c.in-Some-name_of.ensures

pub returns-clause-page_is : goal.returns-clause-page_is
unfolding rest
returns-clause-page_is c =
    rw c.unwrap_or.ensures
    (repaged (unwrap_or c.read_named.result Unreadable) c.read_named.new.page _ _ (sym (ap rest c.in-Some.ensures.steps)) c.read_named.ensures.page_is)

pub returns-clause-values_are : goal.returns-clause-values_are
unfolding rest
returns-clause-values_are c =
    rw c.unwrap_or.ensures
    (relisted (unwrap_or c.read_named.result Unreadable) c.read_named.new.values _ _ (sym (ap rest c.in-Some.ensures.steps)) c.read_named.ensures.values_are)
