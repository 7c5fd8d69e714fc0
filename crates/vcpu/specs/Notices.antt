-- What a notice adds to a record and counts, in two steps: what it asks for beside its marks, and the marked vectors (4.25 to 4.29, 4.37).
-- Assumes nothing.
use Rattle.std.specs.Prelude.{List, ℕ, ◌+◌, get_or, set}
use Rattle.std.specs.Int.Bits.{bit_or}
use Rattle.vector_set.specs.Sets.{union, difference, intersection, count}
use Rattle.vector_set.specs.Summaries.{summary_of}
use Rattle.model.specs.declared.Vcpu.{Vcpu}
use Rattle.model.specs.State.{with_irr, with_summary, with_irr_level}
use Rattle.model.specs.declared.Counts.{Counts}
use Rattle.ipi.specs.declared.Posting.{Posting}
use Rattle.ipi.specs.Posts.{posted}

-- the record with the posting p, and with the bits l in the same word of PL
abbrev pub level_in : Posting → ℕ → Vcpu → Vcpu
level_in p l v = with_irr_level (set v.irr_level p.word (bit_or (get_or v.irr_level p.word 0) l)) v

abbrev pub request_added : Posting → ℕ → Vcpu → Vcpu
request_added p l v = level_in p l (posted p v)

-- the record with the vectors of e pending, and their words marked
abbrev pub marks_added : List ℕ → Vcpu → Vcpu
marks_added e v = with_summary (bit_or v.summary (summary_of e)) (with_irr (union v.irr e) v)

-- the vectors of e counted too, where those of s were pending
unfoldable pub marks_counted : Counts → List ℕ → List ℕ → Counts
marks_counted c e s = record { new = c.new + count (difference e s); merged = c.merged + count (intersection e s) }
