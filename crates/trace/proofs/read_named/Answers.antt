-- `trace::read_named` meets its contract: each arm is told the name.
use mathlib.Core.Path.{sym, ◌∙◌}
use Rattle.trace.specs.Words.{words}
use Rattle.trace.specs.Lines.{named}
use Rattle.trace.proofs.Events.{renamed, plainly, Plain, plain_start, plain_call, plain_entry, plain_non_delivery, plain_ask}
use Rattle.trace.proofs.Events.{plain_state, Pageless, pageless_allow, Listless, listless_notice, listless_hand_back}
use Rattle.trace.proofs.read_named.Goals as goal

pub returns-in-Start : goal.returns-in-Start
unfolding named
returns-in-Start c =
    let p = plainly Plain _ _ c.read_start.ensures (plain_start _) (words c.args.line.left.now) c.args.page.now c.args.values.now in
    record { value = c.read_start.ensures ∙ sym (renamed _ _ _ c.in-Start.is); page_is = p.0; values_are = p.1 }

pub returns-in-Notice : goal.returns-in-Notice
unfolding named
returns-in-Notice c =
    record {
      value = c.read_notice.ensures.value ∙ sym (renamed _ _ _ c.in-Notice.is);
      page_is = c.read_notice.ensures.page_is;
      values_are = plainly Listless _ _ c.read_notice.ensures.value (listless_notice _) (words c.args.line.left.now) c.args.values.now;
    }

pub returns-in-Call : goal.returns-in-Call
unfolding named
returns-in-Call c =
    let p = plainly Plain _ _ c.read_call.ensures (plain_call _) (words c.args.line.left.now) c.args.page.now c.args.values.now in
    record { value = c.read_call.ensures ∙ sym (renamed _ _ _ c.in-Call.is); page_is = p.0; values_are = p.1 }

pub returns-in-Entry : goal.returns-in-Entry
unfolding named
returns-in-Entry c =
    let p = plainly Plain _ _ c.read_entry.ensures (plain_entry _) (words c.args.line.left.now) c.args.page.now c.args.values.now in
    record { value = c.read_entry.ensures ∙ sym (renamed _ _ _ c.in-Entry.is); page_is = p.0; values_are = p.1 }

pub returns-in-NonDelivery : goal.returns-in-NonDelivery
unfolding named
returns-in-NonDelivery c =
    let p = plainly Plain _ _ c.read_non_delivery.ensures (plain_non_delivery _) (words c.args.line.left.now) c.args.page.now c.args.values.now in
    record { value = c.read_non_delivery.ensures ∙ sym (renamed _ _ _ c.in-NonDelivery.is); page_is = p.0; values_are = p.1 }

pub returns-in-HandBack : goal.returns-in-HandBack
unfolding named
returns-in-HandBack c =
    record {
      value = c.read_hand_back.ensures.value ∙ sym (renamed _ _ _ c.in-HandBack.is);
      page_is = c.read_hand_back.ensures.page_is;
      values_are = plainly Listless _ _ c.read_hand_back.ensures.value (listless_hand_back _) (words c.args.line.left.now) c.args.values.now;
    }

pub returns-in-Allow : goal.returns-in-Allow
unfolding named
returns-in-Allow c =
    record {
      value = c.read_allow.ensures.value ∙ sym (renamed _ _ _ c.in-Allow.is);
      page_is = plainly Pageless _ _ c.read_allow.ensures.value (pageless_allow _) (words c.args.line.left.now) c.args.page.now;
      values_are = c.read_allow.ensures.values_are;
    }

pub returns-in-Ask : goal.returns-in-Ask
unfolding named
returns-in-Ask c =
    let p = plainly Plain _ _ c.read_ask.ensures (plain_ask _) (words c.args.line.left.now) c.args.page.now c.args.values.now in
    record { value = c.read_ask.ensures ∙ sym (renamed _ _ _ c.in-Ask.is); page_is = p.0; values_are = p.1 }

pub returns-in-State : goal.returns-in-State
unfolding named
returns-in-State c =
    let p = plainly Plain _ _ c.ended.ensures (plain_state _) (words c.args.line.left.now) c.args.page.now c.args.values.now in
    record { value = c.ended.ensures ∙ sym (renamed _ _ _ c.in-State.is); page_is = p.0; values_are = p.1 }
