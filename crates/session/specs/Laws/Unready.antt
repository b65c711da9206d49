-- A session that cannot be searched or written is refused by the number that its two flags say: 10 where it stands for
-- no sheet, 16 where its sheet is not reduced. Any other has a sheet that is reduced.
use Rattle.std.specs.Prelude.{ℕ, ◌≡◌, refl, Bool, true, false, ◌≢◌}
use Rattle.std.proofs.Common.{arith, ap, ◌∙◌}
use Rattle.std.proofs.Math.Bool.{So}
use Rattle.spec.specs.Text.{Bytes}
use Rattle.spec.specs.Calls.{SearchAnswer, search_refused, Searches, WriteAnswer, write_refused, Writes}
use Rattle.session.specs.CodeSession.{view}
use Rattle.session.specs.Readiness.{unready_number}
use Rattle.session.specs.Laws.SearchedHeld.{searches_nothing, searches_unreduced}
use Rattle.session.specs.Laws.WritesHeld.{writes_nothing, writes_unreduced}
use Rattle.session.specs.declared.Session.{Session as CodeSession}

module _ (s : CodeSession) {number : ℕ} (says : number ≡ unready_number s.loaded s.reduced) where
  -- what holds where there is no sheet and where it is not reduced, holds where the number is not 0
  unready : (Claim : ℕ → Type 0) → (s.loaded ≡ false → Claim 10) → (So s.loaded → s.reduced ≡ false → Claim 16)
      → number ≢ 0 → Claim number
  unready Claim nothing unreduced refused = choose s.loaded s.reduced refl refl
    where
      choose : (loaded reduced : Bool) → s.loaded ≡ loaded → s.reduced ≡ reduced → Claim number
      choose false reduced l r = rw (says, l) (nothing l)
      choose true false l r = rw (says, l, r) (unreduced l r)
      choose true true l r = absurd (refused (says ∙ rw (l, r)))

  pub searches_unready : (budget : ℕ) (answer : SearchAnswer) → answer ≡ search_refused number → number ≢ 0
      → Searches (view s) budget answer (view s)
  searches_unready budget answer e refused =
      unready (λ n. answer ≡ search_refused n → Searches (view s) budget answer (view s))
      (λ l. searches_nothing s l budget answer) (λ l r. searches_unreduced s l r budget answer) refused e

  pub writes_unready : (buffer : Bytes) (answer : WriteAnswer) → answer ≡ write_refused number → number ≢ 0
      → Writes (view s) buffer answer buffer (view s)
  writes_unready buffer answer e refused =
      unready (λ n. answer ≡ write_refused n → Writes (view s) buffer answer buffer (view s))
      (λ l. writes_nothing s l buffer answer) (λ l r. writes_unreduced s l r buffer answer) refused e

  -- where it is 0, the sheet is reduced
  pub ready : number ≡ 0 → So s.reduced
  ready zero = choose s.loaded s.reduced refl refl
    where
      choose : (loaded reduced : Bool) → s.loaded ≡ loaded → s.reduced ≡ reduced → So s.reduced
      choose loaded true l r = r
      choose true false l r = let n : number ≡ 16 = says ∙ rw (l, r) in absurd (omega (arith, n, zero))
      choose false false l r = let n : number ≡ 10 = says ∙ rw l in absurd (omega (arith, n, zero))
