-- What a call sends, by what its numbers ask for, is what the ledger posts for its numbers, where it asks for anything.
-- Assumes nothing.
use mathlib.Core.Path.{◌≡◌, refl, sym}
use mathlib.Core.Bool.{Bool, true, false, cond, ◌&&◌, ◌||◌, or-false}
use Prim.Native.Nat.{ℕ}
use borrow.Author.Tests.{eqb-true}
use lib.Dec.{ltb, leb, eqb}
use Rattle.model.specs.declared.Item.{Item}
use Rattle.model.specs.declared.Item.TheVariants as item
use Rattle.model.specs.declared.Target.TheVariants.{Caller}
use Rattle.model.specs.declared.Kind.{Kind}
use Rattle.model.specs.declared.Kind.TheVariants as kind
use Rattle.model.specs.declared.Refusal.TheVariants.{UnknownCall, BadRegister}
use Rattle.model.specs.declared.Local.TheVariants as local
use Rattle.std.specs.Prelude.{Ok, Err}
use Rattle.model.specs.Requests.{Parsed}
use Rattle.model.specs.declared.Request.TheVariants as request
use Rattle.model.specs.State.{is_active}
use Rattle.model.specs.Registers.{kind_of}
use Rattle.model.specs.Ipi.{icr_legal, icr_item, icr_target, hits}
use Rattle.model.specs.Requests.{bad, registration, read_by, write_value, write_by, nameable, permission, request_of}
use Rattle.lists.specs.Book.{Book, record_at}
use Rattle.lists.specs.Ledger.{reaches, write_sends}
use Rattle.vector_set.specs.Bits.{bit_at}
use Rattle.vector_set.specs.Sets.{is_vector}
use Rattle.lists.proofs.Pending.{gives}

-- ---- what a call sends, by what its numbers ask for
abbrev pub sends_by : ℕ → Item → Book → ℕ → Parsed → Bool
sends_by j x w i (Ok (request.Local o)) = gives x o && (ltb j w.n && hits Caller i j && is_active (record_at w j).phase)
sends_by j x w i (Ok (request.Icr y)) = reaches j x w i (icr_item y) (icr_target y)
sends_by j x w i (Err c) = false

-- it asks for something
abbrev pub asks : Parsed → Bool
asks (Ok (request.Local o)) = true
asks (Ok (request.Icr y)) = true
asks (Err c) = false

module _ (j : ℕ) (x : Item) (w : Book) (i : ℕ) where
  -- the request sends b, if it asks for anything
  abbrev pub Sends : Bool → Parsed → Type 0
  Sends b q = sends_by j x w i q ≡ (asks q && b)

  sends_either : (t b : Bool) (q r : Parsed) → Sends b q → Sends b r → Sends b (cond t q r)
  sends_either true b q r g h = g
  sends_either false b q r g h = h

  sends_read : (k : Kind) (c : ℕ) → Sends false (read_by k c)
  sends_read kind.None c = refl
  sends_read kind.Read c = refl
  sends_read kind.Write c = refl
  sends_read kind.Both c = refl

  sends_registration : (c : ℕ) → Sends false (registration c)
  unfolding registration
  sends_registration c =
      sends_either (eqb c 0) false _ _ refl (sends_either (eqb c 1) false _ _ refl (sends_either (eqb c 2) false _ _ refl refl))

  sends_permission : (c : ℕ) → Sends false (permission c)
  unfolding permission
  sends_permission c = sends_either (nameable c) false _ _ (sends_either (bit_at c 8) false _ _ refl refl) refl

  -- by the register: EOI, self-IPI, TPR, ICR, another
  sends_value : (c y : ℕ) → Sends (write_sends j x w i c y) (write_value c y)
  unfolding write_value write_sends
  sends_value c y = pick (eqb c 0x80B) refl
    where
      fourth : (b : Bool) → Sends ((b && reaches j x w i (icr_item y) (icr_target y)) || false)
          (cond b (cond (icr_legal y) (Ok (request.Icr y)) bad) (Err BadRegister))
      fourth true = sends_either (icr_legal y) _ _ _ (sym (or-false (reaches j x w i (icr_item y) (icr_target y)))) refl
      fourth false = refl

      third : (b : Bool) → eqb c 0x808 ≡ b
          → Sends ((eqb c 0x830 && reaches j x w i (icr_item y) (icr_target y)) || false)
          (cond b (cond (leb y 255) (Ok (request.Local (local.SetTpr y))) bad)
          (cond (eqb c 0x830) (cond (icr_legal y) (Ok (request.Icr y)) bad) (Err BadRegister)))
      third true e = rw (eqb-true c 0x808 e) (sends_either (leb y 255) false _ _ refl refl)
      third false e = fourth (eqb c 0x830)

      second : (b : Bool) → eqb c 0x83F ≡ b
          → Sends ((eqb c 0x830 && reaches j x w i (icr_item y) (icr_target y)) || (b && reaches j x w i (item.Vector y) Caller))
          (cond b (cond (is_vector y) (Ok (request.Local (local.SelfIpi y))) bad)
          (cond (eqb c 0x808) (cond (leb y 255) (Ok (request.Local (local.SetTpr y))) bad)
          (cond (eqb c 0x830) (cond (icr_legal y) (Ok (request.Icr y)) bad) (Err BadRegister))))
      second true e = rw (eqb-true c 0x83F e) (sends_either (is_vector y) (reaches j x w i (item.Vector y) Caller) _ _ refl refl)
      second false e = third (eqb c 0x808) refl

      pick : (b : Bool) → eqb c 0x80B ≡ b
          → Sends ((eqb c 0x830 && reaches j x w i (icr_item y) (icr_target y)) || (eqb c 0x83F && reaches j x w i (item.Vector y) Caller))
          (cond b (cond (eqb y 0) (Ok (request.Local local.Eoi)) bad)
          (cond (eqb c 0x83F) (cond (is_vector y) (Ok (request.Local (local.SelfIpi y))) bad)
          (cond (eqb c 0x808) (cond (leb y 255) (Ok (request.Local (local.SetTpr y))) bad)
          (cond (eqb c 0x830) (cond (icr_legal y) (Ok (request.Icr y)) bad) (Err BadRegister)))))
      pick true e = rw (eqb-true c 0x80B e) (sends_either (eqb y 0) false _ _ refl refl)
      pick false e = second (eqb c 0x83F) refl

  sends_write : (k : Kind) (c y : ℕ) → Sends (write_sends j x w i c y) (write_by k c y)
  sends_write kind.None c y = refl
  sends_write kind.Read c y = refl
  sends_write kind.Write c y = sends_value c y
  sends_write kind.Both c y = sends_value c y

  -- what the request that a call's numbers make sends, those numbers write
  pub sends_request : (op c y : ℕ) → Sends (eqb op 3 && write_sends j x w i c y) (request_of op c y)
  unfolding request_of
  sends_request op c y = first (eqb op 0) refl
    where
      -- the tests from the fourth on
      late : Bool → Parsed
      late b = cond b (write_by (kind_of c) c y) (cond (eqb op 4) (permission c) (Err UnknownCall))

      fourth : (b : Bool) → Sends (b && write_sends j x w i c y) (late b)
      fourth true = sends_write (kind_of c) c y
      fourth false = sends_either (eqb op 4) false _ _ (sends_permission c) refl

      third : (b : Bool) → eqb op 2 ≡ b → Sends (eqb op 3 && write_sends j x w i c y) (cond b (read_by (kind_of c) c) (late (eqb op 3)))
      third true e = rw (eqb-true op 2 e) (sends_read (kind_of c) c)
      third false e = fourth (eqb op 3)

      second : (b : Bool) → eqb op 1 ≡ b
          → Sends (eqb op 3 && write_sends j x w i c y) (cond b (registration c) (cond (eqb op 2) (read_by (kind_of c) c) (late (eqb op 3))))
      second true e = rw (eqb-true op 1 e) (sends_registration c)
      second false e = third (eqb op 2) refl

      first : (b : Bool) → eqb op 0 ≡ b
          → Sends (eqb op 3 && write_sends j x w i c y)
          (cond b (Ok (request.Local local.Features)) (cond (eqb op 1) (registration c) (cond (eqb op 2) (read_by (kind_of c) c) (late (eqb op 3)))))
      first true e = rw (eqb-true op 0 e) refl
      first false e = second (eqb op 1) refl
