-- By bit 14: each test of a bit of byte 1 is a bit of the descriptor.
use mathlib.Core.Path.{sym}
use mathlib.Core.Bool.{true, false}
use lib.ListN.{get_or}
use Rattle.model.specs.Doorbell.{bit_of}
use Rattle.vector_set.proofs.BitLaws.{mask_clear, mask_set, mask_test}
use Rattle.descriptor.proofs.Asked.{level_bits, admitted_is, request_is}
use Rattle.descriptor.proofs.read_request.Goals as goal
use Rattle.descriptor.proofs.read_request.Goals.{then-flags-ne0, else-flags-ne0}

pub returns-then-flags-ne0-2 : goal.returns-then-flags-ne0-2
unfolding bit_of
returns-then-flags-ne0-2 c =
    let a = c.args.allowed in
    let d = c.args.d.now in
    let flags = get_or d 1 0 in
    let single = c.single_of-single.ensures in
    request_is a d true (mask_set 6 flags c.if-flags-ne0-2.true)
    (admitted_is a d 8 2 (mask_test 0 flags) c.is_admitted-nmi.ensures)
    (admitted_is a d 9 18 (mask_test 1 flags) c.is_admitted-machine_check.ensures)
    c.word_of-word.ensures
    single
    (elim c.if-flags-ne0.branch [
      | then-flags-ne0 w ↦ level_bits a d (sym (mask_set 2 flags w.if-flags-ne0.true)) single w.level-is
      | else-flags-ne0 w ↦ level_bits a d (sym (mask_clear 2 flags w.if-flags-ne0.false)) single w.level-is
    ])

pub returns : goal.returns
unfolding bit_of
returns c =
    let a = c.args.allowed in
    let d = c.args.d.now in
    let flags = get_or d 1 0 in
    let single = c.single_of-single.ensures in
    request_is a d false (mask_clear 6 flags c.if-flags-ne0-2.false)
    (admitted_is a d 8 2 (mask_test 0 flags) c.is_admitted-nmi.ensures)
    (admitted_is a d 9 18 (mask_test 1 flags) c.is_admitted-machine_check.ensures)
    c.word_of-word.ensures
    single
    (elim c.if-flags-ne0.branch [
      | then-flags-ne0 w ↦ level_bits a d (sym (mask_set 2 flags w.if-flags-ne0.true)) single w.level-is
      | else-flags-ne0 w ↦ level_bits a d (sym (mask_clear 2 flags w.if-flags-ne0.false)) single w.level-is
    ])
