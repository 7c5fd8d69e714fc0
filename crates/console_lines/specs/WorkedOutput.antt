-- Worked lines: what is printed for events and for a set.
-- Assumes nothing.
use Rattle.std.specs.Prelude.{Ok, Err, ◌≡◌, true, [], ◌∷◌, ◌++◌}
use Rattle.model.specs.declared.Refusal.TheVariants.{BadStart}
use Rattle.model.specs.declared.Presentation.TheVariants.{Vector}
use Rattle.trace.specs.declared.Event.TheVariants.{Unreadable, Start, Notice, Entry, Allow, Ask}
use Rattle.trace.specs.Words.{ascii}
use Rattle.console.specs.declared.Answer.TheVariants.{Nothing, Number, Counts, Presentation, Asked}
use Rattle.console_lines.specs.Lines.{newline, line_of, set_text}

pub record WorkedOutput : Type 0 where
  pub unreadable : line_of [] [] 1024 Unreadable (Ok Nothing) ≡ ascii "error line 1024" ++ newline
  pub started : line_of [] [] 1 (Start 2 1) (Ok (Number 0)) ≡ ascii "start ok" ++ newline
  pub not_started : line_of [] [] 1 (Start 0 1) (Err BadStart) ≡ ascii "start refused 0x5" ++ newline
  -- of a page of four bytes the first three are the event's
  pub notice : line_of (0 ∷ 0x4F ∷ 1 ∷ 2 ∷ []) [] 1 (Notice 0 3) (Ok (Counts (record { new = 1; merged = 16 }))) ≡ ascii "notice ok 0x1 0x10 page 0x1=0x4f 0x2=0x1" ++ newline
  pub entry : line_of [] [] 1 (Entry 0 true true true) (Ok (Presentation (Vector 0x41))) ≡ ascii "entry vector 0x41" ++ newline
  pub codes : line_of [] (0 ∷ 0x80000005 ∷ 0xFFFFFFFF ∷ []) 1 (Allow 1 1 2 0) (Ok (Number 0)) ≡ ascii "allow ok 0x0 codes 0x0 0x80000005" ++ newline
  pub asked : line_of [] [] 1 (Ask 0) (Ok (Asked true)) ≡ ascii "ask yes" ++ newline
  -- the set of 0x41 and 0xF1, and that of no vector
  pub members : set_text (ascii " pending=") (0 ∷ 0 ∷ 2 ∷ 0 ∷ 0 ∷ 0 ∷ 0 ∷ 0x20000 ∷ []) ≡ ascii " pending={0x41,0xf1}"
  pub none : set_text (ascii " service=") (0 ∷ 0 ∷ 0 ∷ 0 ∷ 0 ∷ 0 ∷ 0 ∷ 0 ∷ []) ≡ ascii " service={}"
