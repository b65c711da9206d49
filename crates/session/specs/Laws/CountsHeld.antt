-- The counts where a session's search stands: the best placement's classes and the singles together are the roles,
-- which are no more than permissions; with the witness's count beside them, state and bound are what the definitions
-- say.
use Rattle.std.specs.Prelude.{ℕ, ◌+◌, ◌≤◌, ◌≡◌, Bool, length}
use Rattle.std.proofs.Common.{arith, ◌∙◌}
use Rattle.std.proofs.Math.Path.{ap}
use Rattle.spec.specs.Limits.{permission_limit}
use Rattle.spec.specs.Sheet.{sheet_of}
use Rattle.spec.specs.Witness.{witness}
use Rattle.spec.specs.Roles.{standing_of, bound_of, role_count, standing, bound}
use Rattle.rules.specs.AcceptedFacts.{accepted_lawful}
use Rattle.book_lines.specs.declared.counts.Counts.{Counts}
use Rattle.minimality.specs.StateBound.{state_counted, state_le_permissions}
use Rattle.demands.specs.Believed.{accepted_even}
use Rattle.session.specs.CodeSession.{text_in, state_in, Holds}
use Rattle.answers.specs.CountsFrom.{CountsFrom}
use Rattle.session.specs.Laws.Counted.{CountsIn}
use Rattle.session.specs.declared.Session.{Session as CodeSession}

-- the best placement's classes and the singles
abbrev pub roles_in : CodeSession → ℕ
roles_in s = s.position.cursor.count + s.prepared.reduced.singles

module _ {s : CodeSession} (h : Holds s) where
  pub roles_held : roles_in s ≡ role_count (sheet_of (text_in s)) (state_in s)
  roles_held =
      let single = h.prepared.reduced.single_count (sheet_of (text_in s)) h.prepared.shown in
      omega (arith, h.counted, single, state_counted (sheet_of (text_in s)) (state_in s) h.searching)

  -- never more than permissions
  pub few_roles_held : roles_in s ≤ permission_limit
  few_roles_held =
      let accepts = h.sheet.laid.accepts in
      omega (
        arith,
        roles_held,
        state_le_permissions (sheet_of (text_in s)) (state_in s) h.searching (accepted_even (text_in s) accepts),
        (accepted_lawful (text_in s) accepts).few_permissions,
      )

  pub standing_held : standing_of (roles_in s) s.prepared.witness.count s.position.cursor.finished
      ≡ standing (sheet_of (text_in s)) (state_in s)
  unfolding standing
  standing_held =
      let sheet = sheet_of (text_in s) in
      ap (λ (n : ℕ). standing_of n s.prepared.witness.count s.position.cursor.finished) roles_held
      ∙ ap (λ (w : ℕ). standing_of (role_count sheet (state_in s)) w s.position.cursor.finished)
      h.prepared.witness.counted
      ∙ ap (λ (b : Bool). standing_of (role_count sheet (state_in s)) (length (witness sheet)) b) h.finished

  pub bound_held : bound_of (standing (sheet_of (text_in s)) (state_in s)) (roles_in s) s.prepared.witness.count
      ≡ bound (sheet_of (text_in s)) (state_in s)
  unfolding bound
  bound_held = rw (roles_held, h.prepared.witness.counted)

  -- counts made of these are the session's
  pub counts_held : (counts : Counts)
      → CountsFrom (roles_in s) s.prepared.witness.count s.position.cursor.finished counts → CountsIn s counts
  counts_held counts from =
      record {
        roles = from.roles ∙ roles_held;
        bound = from.bound ∙ rw (from.standing ∙ standing_held) bound_held;
        standing = from.standing ∙ standing_held;
      }
