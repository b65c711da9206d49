-- The searches of the long search are together one. Searches of m and n steps are one of m + n, and where a search does
-- not answer `open` the machine is finished, so that no further one would move it: `witnessed` is answered only where
-- the best placement reaches w, and a machine that reaches w is finished.
use Prim.Native.Nat.{ℕ, zero, suc, ◌+◌, ◌*◌}
use Rattle.std.proofs.Common.{suc-mul, arith, ◌∙◌, eqb-true, eq-eqb}
use Rattle.std.specs.Prelude.{◌≡◌, ◌≢◌}
use Rattle.std.proofs.Math.Path.{refl, sym, ap}
use Rattle.std.proofs.Math.Bool.{Bool, true, false, So}
use Rattle.std.proofs.Math.Logic.{⊎_elim}
use Rattle.std.proofs.Math.Option.{some}
use Rattle.std.proofs.Math.Dec.{eqb}
use Rattle.std.proofs.Math.ListN.{length}
use Rattle.spec.specs.Text.{Bytes}
use Rattle.spec.specs.Sheet.{sheet_of}
use Rattle.spec.specs.Reduction.{singles}
use Rattle.spec.specs.Witness.{witness_size}
use Rattle.spec.specs.Cover.{first_best}
use Rattle.spec.specs.Machine.{State, Ran, best_count}
use Rattle.spec.specs.Roles.{Standing, witnessed, searched, unsettled, kernel_of, start_of, role_count, standing}
use Rattle.spec.specs.Session.{reduced}
use Rattle.spec.specs.Calls.{searched_on, search_answer, after_search}
use Rattle.spec.specs.LongSearch.{says_open, after_rounds}
use Rattle.spec.specs.Sequence.{searched_in_all, reached}
use Rattle.bits.specs.Truth.{passes_or_fails, not_both}
use Rattle.search.specs.Laws.Reaching.{Reaching, reaching_start, reaching_search, search_finished}
use Rattle.minimality.specs.StateBound.{state_counted}
use Rattle.demands.specs.Reached.{reached_further}
use Rattle.demands.specs.Believed.{reached_searching}

module _ (text : Bytes) where
  -- wherever budgets move the machine, reaching w finishes
  reached_reaching : (given : ℕ) → Reaching (kernel_of (sheet_of text)) (reached text given)
  unfolding reached searched_in_all searched_on start_of
  reached_reaching given =
      reaching_search (kernel_of (sheet_of text)) given (start_of (sheet_of text))
      (reaching_start (kernel_of (sheet_of text)) (first_best (sheet_of text)))

  -- as many roles as the witness counts reach w
  as_many_finish : (given : ℕ) → role_count (sheet_of text) (reached text given) ≡ witness_size (sheet_of text)
      → So (reached text given).finished
  unfolding kernel_of
  as_many_finish given e =
      let counted = state_counted (sheet_of text) (reached text given) (reached_searching text given) in
      reached_reaching given
      (eq-eqb (best_count (reached text given) + length (singles (sheet_of text))) (witness_size (sheet_of text))
      (sym counted ∙ e))

  -- a state that is not `open` is finished
  settled_finishes : (given : ℕ) → standing (sheet_of text) (reached text given) ≢ unsettled
      → So (reached text given).finished
  unfolding standing
  settled_finishes given settled =
      choose (eqb (role_count (sheet_of text) (reached text given)) (witness_size (sheet_of text)))
      (reached text given).finished refl refl
    where
      choose : (as_many finished : Bool)
          → eqb (role_count (sheet_of text) (reached text given)) (witness_size (sheet_of text)) ≡ as_many
          → (reached text given).finished ≡ finished → So (reached text given).finished
      choose as_many true e f = f
      choose true false e f =
          as_many_finish given
          (eqb-true (role_count (sheet_of text) (reached text given)) (witness_size (sheet_of text)) e)
      choose false false e f = absurd (settled (rw (e, f)))

  -- and once finished, no further budget moves the machine
  finished_stays : (further given : ℕ) → So (reached text given).finished
      → reached text (further + given) ≡ reached text given
  unfolding searched_on
  finished_stays further given f =
      sym (reached_further text further given)
      ∙ ap (λ (ran : Ran). ran.state)
      (search_finished (kernel_of (sheet_of text)) further (reached text given) f)

  -- ---- round after round

  not_open : (s : Standing) → says_open (some s) ≡ false → s ≢ unsettled
  not_open witnessed e o = let z : ◌≡◌ {A = ℕ} 0 1 = cc in omega arith
  not_open searched e o = let z : ◌≡◌ {A = ℕ} 0 1 = cc in omega arith
  not_open unsettled e o = absurd (not_both refl e)

  -- the steps of one round more
  in_all : (budget rounds given : ℕ) → rounds * budget + (budget + given) ≡ suc rounds * budget + given
  in_all budget rounds given = rw (suc-mul rounds budget) (omega arith)

  -- a round moves the machine by its budget, and answers the state that it comes to
  round_moves : (budget given : ℕ) → after_search (reduced text (reached text given)) budget ≡ reduced text
      (reached text (budget + given))
  unfolding after_search
  round_moves budget given = ap (λ (st : State). reduced text st) (reached_further text budget given)

  round_says : (budget given : ℕ) → (search_answer (reduced text (reached text given)) budget).standing
      ≡ some (standing (sheet_of text) (reached text (budget + given)))
  unfolding search_answer
  round_says budget given =
      ap (λ (st : State). some (standing (sheet_of text) st)) (reached_further text budget given)

  -- the rounds are one search of all their steps
  pub rounds_are_one_search : (budget rounds given : ℕ)
      → after_rounds budget rounds (reduced text (reached text given)) ≡ reduced text
      (reached text (rounds * budget + given))
  unfolding after_rounds
  rounds_are_one_search budget zero given = ap (λ (n : ℕ). reduced text (reached text n)) (omega arith)
  rounds_are_one_search budget (suc rounds) given =
      ⊎_elim
      (λ (p : So open_after).
      rw (p, round_moves budget given)
      (rounds_are_one_search budget rounds (budget + given)
      ∙ ap (λ (n : ℕ). reduced text (reached text n)) (in_all budget rounds given)))
      (λ (f : open_after ≡ false).
      rw (f, round_moves budget given)
      (ap (λ (st : State). reduced text st)
      (sym (ap (reached text) (sym (in_all budget rounds given))
      ∙ finished_stays (rounds * budget) (budget + given)
      (settled_finishes (budget + given)
      (not_open (standing (sheet_of text) (reached text (budget + given)))
      (ap says_open (sym (round_says budget given)) ∙ f)))))))
      (passes_or_fails open_after)
    where
      open_after : Bool
      open_after = says_open (search_answer (reduced text (reached text given)) budget).standing
