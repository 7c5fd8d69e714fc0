-- The worked cases, computed.
-- Assumes nothing.
use mathlib.Core.Path.{refl}
use Rattle.vector_set.specs.Bits.{bits}
use Rattle.vector_set.specs.Sets.{has, words, collect, empty, full, insert, remove, union, difference}
use Rattle.vector_set.specs.Summaries.{summary_of, in_marked, remade}
use Rattle.vector_set.specs.Sets.{highest_below, highest, count_below, count, is_empty, word_of}
use Rattle.model.specs.State.{bare, size, vcpu_at, started, start, stopped, with_vcpu, with_registrations}
use Rattle.model.specs.Items.{item_count, mark, unmark, mark_all, unmark_all}
use Rattle.model.specs.Doorbell.{bit_of, bytes_from, map_bits, announces, descriptor, no_part, admits_mark, admits_level, admits_edge, admits}
use Rattle.model.specs.Doorbell.{admitted, items, clears_bit, clears, noticed_page, handed_bit, serving_bit, handed_bytes, written}
use Rattle.model.specs.Registers.{is_read, is_write, is_both, kind_of, ppr_of, ppr, ldr, tmr, register_value, ended_at, ended, ended_level_at, ended_level}
use Rattle.model.specs.Requests.{registration, write_value, nameable, permission, request_of, serve, call_verdict}
use Rattle.model.specs.Events.{noticed, items_new, items_merged, offer_highest, offer_with, offer, would_present, present, entered, emptied, handed}
use Rattle.model.specs.Events.{hand_back_result}
use Rattle.model.specs.Events.{vcpu_verdict, verdict, call_effect, single_after, list_after, list_codes, effect, concluded, step, give_back, undelivered}
use Rattle.model.specs.Cases.{cases, Starred}
use Rattle.model.specs.Worked.{further, Worked}
use Rattle.model.specs.WorkedChecks.{checks, WorkedChecks}
use Rattle.model.specs.WorkedValues.{values, WorkedValues}
use Rattle.model.specs.WorkedSummaries.{summaries, WorkedSummaries}
use Rattle.model.specs.WorkedHandBacks.{hand_backs, WorkedHandBacks}
use Rattle.model.specs.WorkedLevels.{levels, WorkedLevels}
use Rattle.model.specs.Ipi.{icr_reserved_clear, icr_is_fixed, icr_is_nmi, icr_legal, icr_item, icr_target, hits, reach, map_from, sent, new_bits}

all : Worked × WorkedChecks × WorkedValues × WorkedSummaries × WorkedHandBacks × WorkedLevels
unfolding Starred cases further checks values summaries hand_backs levels
    single_after list_after list_codes give_back undelivered icr_reserved_clear icr_is_fixed icr_is_nmi icr_legal icr_item
    icr_target hits reach map_from sent new_bits item_count items_new items_merged bits has words collect empty full insert remove union difference
    highest_below highest count_below count is_empty word_of bare size vcpu_at started start stopped with_vcpu with_registrations mark unmark mark_all
    unmark_all bit_of bytes_from map_bits
    announces descriptor no_part admits_mark admits_level admits_edge admits admitted items clears_bit clears noticed_page handed_bit serving_bit handed_bytes
    written is_read is_write is_both kind_of ppr_of ppr ldr tmr register_value ended_at ended ended_level_at ended_level registration write_value nameable
    permission request_of serve call_verdict noticed offer_highest offer_with offer would_present summary_of in_marked remade
    present entered emptied handed hand_back_result vcpu_verdict verdict call_effect
    effect concluded step
all = (
  record { starred = refl; further = refl },
  record { checks = refl; nmi = tt; machine_check = tt },
  record {
    values = refl;
    told = λ x ks. refl;
    refuses = λ c ks. refl;
    listed = λ r cs q. (refl, refl, refl);
    paged = λ r p. (refl, refl, refl);
    noticed = λ r p. (refl, refl, refl);
    entered = λ r. (refl, refl);
  },
  record { summaries = refl },
  record { hand_backs = refl },
  record { levels = refl },
)

pub worked : Worked
worked = all.0

pub worked_checks : WorkedChecks
worked_checks = all.1

pub worked_values : WorkedValues
worked_values = all.2

pub worked_summaries : WorkedSummaries
worked_summaries = all.3

pub worked_hand_backs : WorkedHandBacks
worked_hand_backs = all.4

pub worked_levels : WorkedLevels
worked_levels = all.5
