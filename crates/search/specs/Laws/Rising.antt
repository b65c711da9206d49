-- No list of classes is placed twice. Written in grant order with the next try at its end, the position rises in
-- lexicographic order at every step that does not close the search: a placing goes on from the class it tried, or
-- from a later one, and a taking back goes to the class after it. After a placing the next try is 0, so the placed
-- lists rise too. Assumes nothing.
use Rattle.std.specs.Prelude.{ℕ, zero, suc, ◌-◌, ◌≤◌, ◌<◌, ◌≡◌, refl, ◌⊎◌, false, length}
use Rattle.std.proofs.Common.{ap, inl, inr, ⊎_elim, le_refl, eq-or-lt_of_le, arith}
use Rattle.std.proofs.Math.Bool.{So}
use mathlib.Core.List.{List, [], ◌∷◌, reverse, reverse-cons}
use Rattle.std.proofs.Math.Nat.{le_step}
use Rattle.spec.specs.Machine.{Kernel, State, Step, depth, start, step, run}
use Rattle.bits.specs.Truth.{passes_or_fails, not_both, fails_unless}
use Rattle.lists.specs.Lexicographic.{Before, before_irreflexive, before_trans, before_reverse, before_end}
use Rattle.search.specs.Laws.Steps.{Stepped, placing, improving, taking_back, closing, step_cases}
use Rattle.search.specs.Laws.Runs.{run_finished, run_step, run_none, run_goes_on, run_settles, run_last}

-- the classes of the placed grants in grant order
abbrev pub in_order : State → List ℕ
in_order st = reverse st.placed

-- the same, and then the next try
abbrev pub position : State → List ℕ
position st = reverse (st.next ∷ st.placed)

placing_rises : (placed : List ℕ) (t c : ℕ) → t ≤ c → Before (reverse (t ∷ placed)) (reverse (0 ∷ c ∷ placed))
placing_rises placed t c l =
    before_reverse placed (t ∷ []) (c ∷ 0 ∷ []) (⊎_elim (λ e. inr (e, tt)) (λ m. inl m) (eq-or-lt_of_le l))

taking_back_rises : (earlier : List ℕ) (a t : ℕ) → Before (reverse (t ∷ a ∷ earlier)) (reverse (suc a ∷ earlier))
taking_back_rises earlier a t = before_reverse earlier (a ∷ t ∷ []) (suc a ∷ []) (inl (le_refl (suc a)))

-- a step closes the search, or the position rises
pub step_closes_or_rises : (kernel : Kernel) (st : State)
    → So (step kernel st).state.finished ⊎ Before (position st) (position (step kernel st).state)
step_closes_or_rises kernel st = by_cases (step_cases kernel st)
  where
    by_cases : {after : Step} → Stepped kernel st after
        → So after.state.finished ⊎ Before (position st) (position after.state)
    by_cases (placing c w not-whole) = inr (placing_rises st.placed st.next c w.not_tried)
    by_cases (improving c w whole) = inr (placing_rises st.placed st.next c w.not_tried)
    by_cases (taking_back a earlier e h) = inr (rw e (taking_back_rises earlier a st.next))
    by_cases (closing e h) = inl refl

-- what stands after the position that an unfinished run came to, stands after its first
pub run_rises : (kernel : Kernel) (count : ℕ) (st : State) (later : List ℕ) → (run kernel count st).state.finished ≡
    false
    → Before (position (run kernel count st).state) later → Before (position st) later
run_rises kernel zero st later u b = rw run_none at b
run_rises kernel (suc count) st later u b =
    ⊎_elim (λ e. rw (run_finished kernel (suc count) st e) at b)
    (λ e.
    after_step (step_closes_or_rises kernel st) (rw (run_step kernel count st e) at u)
    (run_rises kernel count (step kernel st).state later (rw (run_step kernel count st e) at u)
    (rw (run_step kernel count st e) at b)))
    (passes_or_fails st.finished)
  where
    after_step :
        So (step kernel st).state.finished ⊎ Before (position st) (position (step kernel st).state)
        → (run kernel count (step kernel st).state).state.finished ≡ false
        → Before (position (step kernel st).state) later
        → Before (position st) later
    after_step (inl e) v b = absurd (not_both e (rw (run_finished kernel count (step kernel st).state e) at v))
    after_step (inr r) v b = before_trans (position st) (position (step kernel st).state) later r b

-- ---- placed lists

-- the step after so many steps places a grant: d grows by 1
abbrev pub Places : Kernel → State → ℕ → Type 0
Places kernel st count = depth (run kernel (suc count) st).state ≡ suc (depth (run kernel count st).state)

places_unfinished : (kernel : Kernel) (st : State) (count : ℕ) → Places kernel st count
    → (run kernel count st).state.finished ≡ false
places_unfinished kernel st count p =
    fails_unless (run kernel count st).state.finished (λ f.
    omega (arith, ap (λ ran. depth ran.state) (run_settles kernel count (suc count) st (le_step (le_refl count)) f)))

-- a step that places a grant raises the position, and leaves all classes to try
record Raised (before after : State) : Type 0 where
  rises : Before (position before) (position after)
  anew : after.next ≡ 0

placing_raises : (kernel : Kernel) (st : State) → depth (step kernel st).state ≡ suc (depth st)
    → Raised st (step kernel st).state
placing_raises kernel st = by_cases (step_cases kernel st)
  where
    by_cases : {after : Step} → Stepped kernel st after → depth after.state ≡ suc (depth st)
        → Raised st after.state
    by_cases (placing c w not-whole) g = record {
      rises = placing_rises st.placed st.next c w.not_tried;
      anew = refl;
    }
    by_cases (improving c w whole) g = record {
      rises = placing_rises st.placed st.next c w.not_tried;
      anew =
          refl;
    }
    by_cases (taking_back a earlier e h) g = absurd (omega (arith, ap length e))
    by_cases (closing e h) g = absurd (omega (arith, ap length e))

places_raises : (kernel : Kernel) (st : State) (count : ℕ) → Places kernel st count
    → Raised (run kernel count st).state (run kernel (suc count) st).state
places_raises kernel st count p =
    let last = run_last kernel count st (places_unfinished kernel st count p) in
    rw last (placing_raises kernel (run kernel count st).state (rw last at p))

-- two positions with all classes to try are in the order of their placed lists
before_last : (x y : List ℕ) → Before (reverse (0 ∷ x)) (reverse (0 ∷ y)) → Before (reverse x) (reverse y)
before_last x y b = before_end (reverse x) (reverse y) (rw (reverse-cons 0 x, reverse-cons 0 y) at b)

-- the placed lists rise, in grant order
pub placed_lists_rise : (kernel : Kernel) (st : State) (m n : ℕ) → m < n → Places kernel st m → Places kernel st n
    → Before (in_order (run kernel (suc m) st).state) (in_order (run kernel (suc n) st).state)
placed_lists_rise kernel st m n l p q =
    let mid : State = (run kernel (suc m) st).state in
    let last : State = (run kernel (suc n) st).state in
    let same : (run kernel n st).state ≡ (run kernel (n - suc m) mid).state = ap (λ ran. ran.state)
    (run_goes_on kernel (suc m) n st l) in
    let v = places_raises kernel st m p in
    let w = places_raises kernel st n q in
    before_last mid.placed last.placed (rw (v.anew, w.anew) at
    (run_rises kernel (n - suc m) mid (position last) (rw same at (places_unfinished kernel st n q))
    (rw same at w.rises)))

-- no list of classes is placed twice
pub placed_once : (kernel : Kernel) (first : List ℕ) (m n : ℕ) → m < n → Places kernel (start kernel first) m
    → Places kernel (start kernel first) n
    → (run kernel (suc m) (start kernel first)).state.placed ≡ (run kernel (suc n) (start kernel first)).state.placed
    → ⊥
placed_once kernel first m n l p q e =
    before_irreflexive (in_order (run kernel (suc n) (start kernel first)).state)
    (rw e at (placed_lists_rise kernel (start kernel first) m n l p q))
