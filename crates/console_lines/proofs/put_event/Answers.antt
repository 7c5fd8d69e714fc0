-- `console_lines::put_event` meets its contract.
use Rattle.trace.specs.declared.Event.{Event}
use Rattle.console.proofs.Fills.{puts_none, puts_of}
use Rattle.console_lines.specs.Lines.{line_of}
use Rattle.console_lines.proofs.put_event.Goals as goal

pub returns-in-Nothing : goal.returns-in-Nothing
returns-in-Nothing c =
    let a = c.args in
    puts_of (λ (e : Event). line_of a.parts.now.page a.parts.now.codes a.number e a.answer) c.in-Nothing.is
    (puts_none _ _)

pub returns-in-NonDelivery : goal.returns-in-NonDelivery
returns-in-NonDelivery c =
    let a = c.args in
    puts_of (λ (e : Event). line_of a.parts.now.page a.parts.now.codes a.number e a.answer) c.in-NonDelivery.is
    c.put_plain-in-NonDelivery.ensures

pub returns-in-State : goal.returns-in-State
returns-in-State c =
    let a = c.args in
    puts_of (λ (e : Event). line_of a.parts.now.page a.parts.now.codes a.number e a.answer) c.in-State.is
    (puts_none _ _)
