-- The locals of a walked function: allocated at once and freed at once, and one of them read and written in an environment that is not written out. It says
-- nothing of any function or type.
--     Blocks ls, env ls bs     a block for each local; the environment that they make
--     cell                     a local, empty or full
--     rooms, cells, deaths     the locals as context entries, in their order: empty, and holding what `cs` says; and what frees them, as one assertion
--     contents Γ               what the entries of a context hold
--     allocates                a function's locals are allocated: local i stands i entries behind what was there
--     frees_all, frees-with    they are freed, whatever they hold: in a context that is written out, and where what they hold is said
--     Stands                   where a local stands: its type and its block
--     reads_at, var-at, sets-at, resets-at, lands-at      a whole local is read; an empty one is written; a full one is; a call's result goes to an empty one
-- Assumes `Logic`.
use mathlib.Core.Path.{◌≡◌, sym, subst}
use Prim.Native.Nat.{ℕ, zero}
use mathlib.Core.List.{List, [], ◌∷◌, ◌++◌}
use mathlib.Core.Option.{Option, none, some as full}
use seplogic.Ra.Ura.{Ura}
use base.Fraction.{full_share}
use lib.Dec.{T as Holds}
use mir.Syntax.{Ty, Local, local, place, copy, Rv as RValue, Body, seq, assign}
use mir.Val.{Val, WT, has_ty}
use base.Logic.{SProp, ent, sep, wand, emp, id⊢, via, comm∗, mono_l, mono_r, fst∗, emp∗, all_i, wand_i}
use base.Fml.{Fml, Share, ftrue, ffalse, feq, flt, fsep, fand, for, fwand, fex, fall, fupd, fat, froom, fdies, flft, fdead, fobs, fauth, fres, fbor}
use base.Fml.{fobor, flent, fshr_bor, fhide, fleft, fown, finv, fnamed, ftok, fkid, fme, fsent}
use prog.Wp.{Heap, Env, Calls, Loops, Spot, spot_of, alloc, release}
use types.Logic.{Logic}
use types.Kit.{Item, ‵, raw, ◌⊛◌, some, given, later, mean, ⋆, nth, put, pop, push, ++⊢, ⊢++, Post, Goal, runs, lands, allocs, frees, aim}
use types.Kit.{Seq, Step, step, ◌$◌, ◌∵◌, !, qed, move, split, join, frame, done}
use types.Run.{Reads, Writes, Opd, Rv, look, init, store, from, load, stop, assigns, land}

-- ---- the locals
abbrev pub Blocks : List Local → Type 0
Blocks [] = Unit {0}
Blocks (l ∷ ls) = ℕ × Blocks ls

abbrev pub env : (ls : List Local) → Blocks ls → List (Ty × ℕ)
env [] bs = []
env (local τ h ∷ ls) bs = (τ, bs.0) ∷ env ls bs.1

abbrev first : List (Option Val) → Option Val
first [] = none
first (c ∷ cs) = c

abbrev rest : List (Option Val) → List (Option Val)
rest [] = []
rest (c ∷ cs) = cs

-- what a cell holds
abbrev inside : Fml → Option Val
inside ftrue = none
inside ffalse = none
inside (feq X x y) = none
inside (flt x y) = none
inside (fsep P Q) = none
inside (fand P Q) = none
inside (for P Q) = none
inside (fwand P Q) = none
inside (fex X P) = none
inside (fall X P) = none
inside (fupd P) = none
inside (fat q τ b o v) = full v
inside (froom τ b o) = none
inside (fdies τ b) = none
inside (flft κ q) = none
inside (fdead κ) = none
inside (fobs γ v) = none
inside (fauth γ v) = none
inside (fres γ v) = none
inside (fbor κ P) = none
inside (fobor κ q P) = none
inside (flent κ P) = none
inside (fshr_bor κ P) = none
inside (fhide P) = none
inside (fleft γ a b c d) = none
inside (fown R x y) = none
inside (finv P) = none
inside (fnamed x y) = none
inside (ftok x) = none
inside (fkid x y) = none
inside (fme x) = none
inside (fsent x) = none

module _ {M : Type 1} {𝓤 : Ura M} where
  abbrev holds : Item 𝓤 → Option Val
  holds (‵ P) = inside P
  holds (raw P) = none
  holds (i ⊛ j) = none
  holds (some P) = none
  holds (given φ i) = none
  holds (later i) = none

  abbrev pub contents : List (Item 𝓤) → List (Option Val)
  contents [] = []
  contents (i ∷ Γ) = holds i ∷ contents Γ

  abbrev pub rooms : (ls : List Local) → Blocks ls → List (Item 𝓤)
  rooms [] bs = []
  rooms (local τ h ∷ ls) bs = ‵ (froom τ bs.0 zero) ∷ rooms ls bs.1

  abbrev pub cell : Ty → ℕ → Option Val → Item 𝓤
  cell τ b none = ‵ (froom τ b zero)
  cell τ b (full v) = ‵ (fat full_share τ b zero v)

  abbrev pub cells : (ls : List Local) → Blocks ls → List (Option Val) → List (Item 𝓤)
  cells [] bs cs = []
  cells (local τ h ∷ ls) bs cs = cell τ bs.0 (first cs) ∷ cells ls bs.1 (rest cs)

  abbrev pub deaths : (H : Heap 𝓤) (ls : List Local) → Blocks ls → SProp 𝓤
  deaths H [] bs = emp 𝓤
  deaths H (local τ h ∷ ls) bs = sep 𝓤 (H.dies τ bs.0) (deaths H ls bs.1)

module _ {M : Type 1} {𝓤 : Ura M} (𝓛 : Logic 𝓤) where
  open 𝓛 use {H}

  abbrev ◌∗◌ : SProp 𝓤 → SProp 𝓤 → SProp 𝓤
  P ∗ Q = sep 𝓤 P Q

  abbrev ◌⊢◌ : SProp 𝓤 → SProp 𝓤 → Type 1
  P ⊢ Q = ent 𝓤 P Q

  infix 26 ◌⊢◌
  infixr 35 ◌∗◌
  swaps : (P R D S E : SProp 𝓤) → (P ∗ (R ∗ D)) ∗ (S ∗ E) ⊢ P ∗ ((R ∗ S) ∗ (D ∗ E))
  swaps P R D S E =
      qed 𝓛 (((raw P ⊛ (raw R ⊛ raw D)) ⊛ (raw S ⊛ raw E)) ∷ []) ∵ split ! $ split ! $ frame ! $ split ! $ move ! (2 ∷ []) $ split ! $ move ! (2 ∷ 0 ∷ []) $
      join ! $ frame ! $ move ! (1 ∷ 0 ∷ []) $ done !

  alloc_ent : (ls : List Local) (P : SProp 𝓤) (Kt : Env 𝓤 H → SProp 𝓤) → ((bs : Blocks ls) → P ∗ (⋆ 𝓛 (rooms ls bs) ∗ deaths H ls bs) ⊢ Kt (env ls bs))
      → P ⊢ alloc 𝓤 H ls Kt
  alloc_ent [] P Kt h = via 𝓤 (P ∗ (emp 𝓤 ∗ emp 𝓤))
      (via 𝓤 ((emp 𝓤 ∗ emp 𝓤) ∗ P) (via 𝓤 (emp 𝓤 ∗ P) (emp∗ 𝓤 P) (mono_l 𝓤 P (emp∗ 𝓤 (emp 𝓤)))) (comm∗ 𝓤 (emp 𝓤 ∗ emp 𝓤) P)) (h tt)
  alloc_ent (local τ d ∷ ls) P Kt h =
      all_i 𝓤 (λ (b : ℕ). wand 𝓤 (H.room τ b zero ∗ H.dies τ b) (alloc 𝓤 H ls (λ E. Kt ((τ, b) ∷ E))))
      (λ b. wand_i 𝓤 P (H.room τ b zero ∗ H.dies τ b) (alloc 𝓤 H ls (λ E. Kt ((τ, b) ∷ E)))
      (alloc_ent ls (P ∗ (H.room τ b zero ∗ H.dies τ b)) (λ E. Kt ((τ, b) ∷ E))
      (λ bs. via 𝓤 (P ∗ ((H.room τ b zero ∗ ⋆ 𝓛 (rooms ls bs)) ∗ (H.dies τ b ∗ deaths H ls bs)))
      (swaps P (H.room τ b zero) (H.dies τ b) (⋆ 𝓛 (rooms ls bs)) (deaths H ls bs))
      (via 𝓤 (P ∗ (⋆ 𝓛 (rooms (local τ d ∷ ls) (b, bs)) ∗ deaths H (local τ d ∷ ls) (b, bs)))
      (mono_r 𝓤 P (mono_l 𝓤 (deaths H (local τ d ∷ ls) (b, bs)) (push 𝓛 (‵ (froom τ b zero)) (rooms ls bs)))) (h (b, bs))))))

  room_of : (τ : Ty) (b : ℕ) (c : Option Val) → mean 𝓛 (cell τ b c) ⊢ H.room τ b zero
  room_of τ b none = id⊢ 𝓤 (H.room τ b zero)
  room_of τ b (full v) = 𝓛.laws.at_room τ b zero v

  frees_ent : (ls : List Local) (bs : Blocks ls) (cs : List (Option Val)) (P : SProp 𝓤)
      → P ∗ (⋆ 𝓛 (cells ls bs cs) ∗ deaths H ls bs) ⊢ release 𝓤 H (env ls bs) P
  frees_ent [] bs cs P = fst∗ 𝓤 P (emp 𝓤 ∗ emp 𝓤)
  frees_ent (local τ d ∷ ls) bs cs P =
      let R : SProp 𝓤 = H.room τ bs.0 zero in
      let D : SProp 𝓤 = H.dies τ bs.0 in
      let S : SProp 𝓤 = ⋆ 𝓛 (cells ls bs.1 (rest cs)) in
      let E : SProp 𝓤 = deaths H ls bs.1 in
      via 𝓤 (P ∗ ((R ∗ S) ∗ (D ∗ E)))
      (mono_r 𝓤 P (mono_l 𝓤 (D ∗ E) (via 𝓤 (mean 𝓛 (cell τ bs.0 (first cs)) ∗ S) (pop 𝓛 (cell τ bs.0 (first cs)) (cells ls bs.1 (rest cs)))
      (mono_l 𝓤 S (room_of τ bs.0 (first cs))))))
      (via 𝓤 ((R ∗ D) ∗ (P ∗ (S ∗ E))) (sorts P R S D E) (mono_r 𝓤 (R ∗ D) (frees_ent ls bs.1 (rest cs) P)))
    where
      sorts : (P R S D E : SProp 𝓤) → P ∗ ((R ∗ S) ∗ (D ∗ E)) ⊢ (R ∗ D) ∗ (P ∗ (S ∗ E))
      sorts P R S D E =
          qed 𝓛 ((raw P ⊛ ((raw R ⊛ raw S) ⊛ (raw D ⊛ raw E))) ∷ []) ∵ split ! $ move ! (1 ∷ []) $ split ! $ split ! $ move ! (2 ∷ []) $ split ! $
          move ! (2 ∷ 0 ∷ []) $ join ! $ frame ! $ move ! (2 ∷ 1 ∷ 0 ∷ []) $ done !

  -- a context with the locals at its end, as its two halves
  apart : (Γ Δ : List (Item 𝓤)) (D : SProp 𝓤) → ⋆ 𝓛 (Γ ++ (Δ ++ (raw D ∷ []))) ⊢ ⋆ 𝓛 Γ ∗ (⋆ 𝓛 Δ ∗ D)
  apart Γ Δ D = via 𝓤 (⋆ 𝓛 Γ ∗ ⋆ 𝓛 (Δ ++ (raw D ∷ []))) (⊢++ 𝓛 Γ (Δ ++ (raw D ∷ []))) (mono_r 𝓤 (⋆ 𝓛 Γ) (⊢++ 𝓛 Δ (raw D ∷ [])))

  whole : (Γ Δ : List (Item 𝓤)) (D : SProp 𝓤) → ⋆ 𝓛 Γ ∗ (⋆ 𝓛 Δ ∗ D) ⊢ ⋆ 𝓛 (Γ ++ (Δ ++ (raw D ∷ [])))
  whole Γ Δ D = via 𝓤 (⋆ 𝓛 Γ ∗ ⋆ 𝓛 (Δ ++ (raw D ∷ []))) (mono_r 𝓤 (⋆ 𝓛 Γ) (++⊢ 𝓛 Δ (raw D ∷ []))) (++⊢ 𝓛 Γ (Δ ++ (raw D ∷ [])))

module _ {M : Type 1} {𝓤 : Ura M} {𝓛 : Logic 𝓤} {K : Type 0} where
  open 𝓛 use {H}

  pub frees_with : K → (Δ : List (Item 𝓤)) (ls : List Local) (bs : Blocks ls) (cs : List (Option Val)) {g : Goal 𝓤 H}
      → Step K 𝓛 Δ g (Δ ++ (cells ls bs cs ++ (raw (deaths H ls bs) ∷ []))) (frees (env ls bs) g)
  frees_with t Δ ls bs cs {g} =
      let D : SProp 𝓤 = sep 𝓤 (⋆ 𝓛 (cells ls bs cs)) (deaths H ls bs) in
      step (λ s. record {
        prf = via 𝓤 (sep 𝓤 (⋆ 𝓛 Δ) D) (apart 𝓛 Δ (cells ls bs cs) (deaths H ls bs))
            (via 𝓤 (sep 𝓤 (aim 𝓤 H g) D) (mono_l 𝓤 D s.prf) (frees_ent 𝓛 ls bs cs (aim 𝓤 H g)));
      })

  -- the entries Γ behind Δ are the locals, with what they hold: `refl` shows it
  pub frees_all : K → (Δ : List (Item 𝓤)) {Γ : List (Item 𝓤)} (ls : List Local) (bs : Blocks ls) {g : Goal 𝓤 H}
      → Γ ≡ cells ls bs (contents Γ) ++ (raw (deaths H ls bs) ∷ []) → Step K 𝓛 Δ g (Δ ++ Γ) (frees (env ls bs) g)
  frees_all t Δ {Γ} ls bs {g} e = step (λ s. subst (λ (Ξ : List (Item 𝓤)). Seq K 𝓛 (Δ ++ Ξ) (frees (env ls bs) g)) (sym e)
      (frees_with t Δ ls bs (contents Γ) $ s))

module _ {M : Type 1} {𝓤 : Ura M} {𝓛 : Logic 𝓤} {K : Type 0} {Γ : List (Item 𝓤)} where
  open 𝓛 use {H}

  pub allocates : K → {ls : List Local} {Kt : Env 𝓤 H → Goal 𝓤 H}
      → ((bs : Blocks ls) → Seq K 𝓛 (Γ ++ (rooms ls bs ++ (raw (deaths H ls bs) ∷ []))) (Kt (env ls bs))) → Seq K 𝓛 Γ (allocs ls Kt)
  allocates t {ls} {Kt} k = record {
    prf = alloc_ent 𝓛 ls (⋆ 𝓛 Γ) (λ E. aim 𝓤 H (Kt E))
        (λ bs. via 𝓤 (⋆ 𝓛 (Γ ++ (rooms ls bs ++ (raw (deaths H ls bs) ∷ [])))) (whole 𝓛 Γ (rooms ls bs) (deaths H ls bs)) (k bs).prf);
  }

-- ---- a local in an environment that is not written out
module _ {M : Type 1} (𝓤 : Ura M) (H : Heap 𝓤) where
  abbrev pub Stands : Env 𝓤 H → ℕ → Ty → ℕ → Type 0
  Stands E j τ b = spot_of 𝓤 H E j ≡ (τ, b, zero)

module _ {M : Type 1} {𝓤 : Ura M} {𝓛 : Logic 𝓤} {K : Type 0} {Γ : List (Item 𝓤)} {τ : Ty} {b : ℕ} where
  open 𝓛 use {H}

  pub reads_at : K → (E : Env 𝓤 H) (j : ℕ) → Stands 𝓤 H E j τ b → (n : ℕ) {q : Share} {v : Val} → nth 𝓛 n Γ ≡ ‵ (fat q τ b zero v)
      → Reads K 𝓛 Γ (spot_of 𝓤 H E j).0 (spot_of 𝓤 H E j).1 zero v
  reads_at t E j s n {v = v} e = subst (λ (p : Spot 𝓤 H). Reads K 𝓛 Γ p.0 p.1 p.2 v) (sym s) (look t n e)

module _ {M : Type 1} {𝓤 : Ura M} {𝓛 : Logic 𝓤} {K : Type 0} {Γ : List (Item 𝓤)} {E : Env 𝓤 𝓛.H} {j : ℕ} {τ : Ty} {b : ℕ} where
  open 𝓛 use {H}

  pub var_at : K → Stands 𝓤 H E j τ b → (n : ℕ) {q : Share} {v : Val} → nth 𝓛 n Γ ≡ ‵ (fat q τ b zero v) → Opd K 𝓛 Γ E (copy (place j [])) v
  var_at t s n e = load t (from t (stop t)) (reads_at t E j s n e)

  module _ {C : Calls 𝓤 H} {Λ : Loops 𝓤 H} {P : Post 𝓤 H} {rv : RValue} {next : Body} {v : Val} where
    pub sets_at : K → Stands 𝓤 H E j τ b → Rv K 𝓛 Γ E rv v → (n : ℕ) → nth 𝓛 n Γ ≡ ‵ (froom τ b zero) → Holds (has_ty τ v) × WT v
        → Step K 𝓛 (put 𝓛 n (‵ (fat full_share τ b zero v)) Γ) (runs C Λ E next P) Γ (runs C Λ E (seq (assign (place j []) rv) next) P)
    sets_at t s r n e wt = assigns t r (from t (stop t))
        (subst (λ (p : Spot 𝓤 H). Writes K 𝓛 Γ p.0 p.1 p.2 v (put 𝓛 n (‵ (fat full_share τ b zero v)) Γ)) (sym s) (init t n e wt))

    pub resets_at : K → Stands 𝓤 H E j τ b → Rv K 𝓛 Γ E rv v → (n : ℕ) {v₀ : Val} → nth 𝓛 n Γ ≡ ‵ (fat full_share τ b zero v₀) → Holds (has_ty τ v) × WT v
        → Step K 𝓛 (put 𝓛 n (‵ (fat full_share τ b zero v)) Γ) (runs C Λ E next P) Γ (runs C Λ E (seq (assign (place j []) rv) next) P)
    resets_at t s r n e wt = assigns t r (from t (stop t))
        (subst (λ (p : Spot 𝓤 H). Writes K 𝓛 Γ p.0 p.1 p.2 v (put 𝓛 n (‵ (fat full_share τ b zero v)) Γ)) (sym s) (store t n e wt))

  pub lands_at : {C : Calls 𝓤 H} {Λ : Loops 𝓤 H} {P : Post 𝓤 H} {next : Body} {v : Val} → K → Stands 𝓤 H E j τ b → (n : ℕ) → nth 𝓛 n Γ ≡ ‵ (froom τ b zero)
      → Holds (has_ty τ v) × WT v
      → Step K 𝓛 (put 𝓛 n (‵ (fat full_share τ b zero v)) Γ) (runs C Λ E next P) Γ (lands C Λ E (place j []) v next P)
  lands_at {v = v} t s n e wt = land t (from t (stop t))
      (subst (λ (p : Spot 𝓤 H). Writes K 𝓛 Γ p.0 p.1 p.2 v (put 𝓛 n (‵ (fat full_share τ b zero v)) Γ)) (sym s) (init t n e wt))
