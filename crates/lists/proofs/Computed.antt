-- The worked lists and their sums, computed.
-- Assumes nothing.
use mathlib.Core.Path.{refl}
use Rattle.vector_set.specs.Bits.{bits}
use Rattle.vector_set.specs.Sets.{has, words, collect, empty, full, insert, remove, union, difference}
use Rattle.vector_set.specs.Sets.{highest_below, highest, count_below, count, is_empty, word_of}
use Rattle.vector_set.specs.Summaries.{summary_of, in_marked, remade}
use Rattle.model.specs.State.{bare, size, vcpu_at, started, start, stopped, with_vcpu, with_registrations}
use Rattle.model.specs.Items.{item_count, mark, unmark, mark_all, unmark_all}
use Rattle.model.specs.Doorbell.{bit_of, bytes_from, map_bits, announces, descriptor, no_part, admits_mark, admits_level, admits_edge, admits}
use Rattle.model.specs.Doorbell.{admitted, items, clears_bit, clears, noticed_page, handed_bit, serving_bit, handed_bytes, written}
use Rattle.model.specs.Registers.{is_read, is_write, is_both, kind_of, ppr_of, ppr, ldr, tmr, register_value, ended_at, ended, ended_level_at, ended_level}
use Rattle.model.specs.Requests.{registration, write_value, nameable, permission, request_of, serve, call_verdict}
use Rattle.model.specs.Events.{noticed, items_new, items_merged, offer_highest, offer_with, offer, present, entered, emptied, handed, hand_back_result}
use Rattle.model.specs.Events.{vcpu_verdict, verdict, call_effect, single_after, list_after, list_codes, effect, concluded, step, run, final, give_back, undelivered}
use Rattle.lists.specs.Book.{book_of, record_at, with_record, with_count, leaves_at_zero, takes_one}
use Rattle.lists.specs.Book.{adds_one, registers, permits, permits_each, called, leaves, feed_act, part_on, parts}
use Rattle.lists.specs.Lists.{results, hand_back_pages, pages, struck, same, notices, neither, both}
use Rattle.lists.specs.Ledger.{write_sends, post_act, ledger}
use Rattle.lists.specs.WorkedList.{listed, paired, checked, valued, judged, WorkedList}
use Rattle.lists.specs.HandBacks.{hands_back_in}
use Rattle.lists.specs.WorkedAttempts.{attempted, WorkedAttempts}
use Rattle.lists.specs.WorkedSums.{sent_twice, departed, merged_each, summed, WorkedSums}
use Rattle.model.specs.Ipi.{icr_reserved_clear, icr_is_fixed, icr_is_nmi, icr_legal, icr_item, icr_target, hits, reach, map_from, sent, new_bits}

all : WorkedList × WorkedSums × WorkedAttempts
unfolding listed paired checked valued sent_twice departed merged_each summed attempted hands_back_in permits_each single_after list_after list_codes judged
    parts book_of record_at with_record with_count leaves_at_zero takes_one adds_one registers permits called leaves feed_act
    part_on results hand_back_pages pages struck write_sends post_act ledger run final give_back undelivered icr_reserved_clear icr_is_fixed icr_is_nmi icr_legal icr_item
    icr_target hits reach map_from sent new_bits item_count items_new items_merged bits has words collect empty full insert remove union difference
    highest_below highest count_below count is_empty word_of bare size vcpu_at started start stopped with_vcpu with_registrations mark unmark mark_all
    unmark_all bit_of bytes_from map_bits
    announces descriptor no_part admits_mark admits_level admits_edge admits admitted items clears_bit clears noticed_page handed_bit serving_bit handed_bytes
    written is_read is_write is_both kind_of ppr_of ppr ldr tmr register_value ended_at ended ended_level_at ended_level registration write_value nameable
    permission request_of serve call_verdict noticed offer_highest offer_with offer summary_of in_marked remade
    present entered emptied handed hand_back_result vcpu_verdict verdict call_effect
    effect concluded step
all = (
  record {
    listed = refl;
    paired = refl;
    checked = refl;
    valued = refl;
    judged = refl;
    different = both (notices refl) (both same (both (notices refl) neither));
  },
  record { sent_twice = refl; departed = refl; merged_each = refl; summed = refl },
  record { attempted = refl },
)

pub worked_list : WorkedList
worked_list = all.0

pub worked_sums : WorkedSums
worked_sums = all.1

pub worked_attempts : WorkedAttempts
worked_attempts = all.2
