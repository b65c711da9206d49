-- What is known where a newcomer is ready to be put in a book: the longer sheet is accepted and has one user more, the
-- roles and the witness lines are few, and the matrices that were read are such as a newcomer can be put in.
use Rattle.std.specs.Prelude.{ℕ, suc, ◌≤◌, ◌<◌, ◌≡◌, List, length}
use Rattle.std.proofs.Common.{arith, sym, ap, ◌∙◌}
use Rattle.std.proofs.Math.Bool.{So}
use borrow.Author.Tests.{leb-false}
use Rattle.spec.specs.Limits.{user_limit, role_limit}
use Rattle.spec.specs.Text.{Bytes}
use Rattle.spec.specs.Sheet.{sheet_of, user_count, permission_count}
use Rattle.spec.specs.Cover.{grant_at}
use Rattle.spec.specs.Refusal.{accepted}
use Rattle.spec.specs.Book.{Said}
use Rattle.spec.specs.Form.{said}
use Rattle.spec.specs.Newcomer.{Admission, given_sheet, longer_sheet, users_at_limit}
use Rattle.lists.specs.EachLaws.{Each}
use Rattle.lists.specs.TestLaws.{member_at}
use Rattle.rules.specs.AcceptedFacts.{Lawful, accepted_lawful}
use Rattle.cell_rows.specs.Laws.Width.{permissions_fit}
use Rattle.cells.specs.RowsRead.{RowsRead}
use Rattle.longer.specs.OneLine.{added_fields}
use Rattle.longer.specs.AddedLine.{permissions_same, users_added}
use Rattle.longer.specs.LongerSheet.{LongerSheet, longer_sheet_told}
use Rattle.right.specs.ReadBack.{SaysSame}
use Rattle.right.specs.Confirmed.{bound_le_roles}
use Rattle.read_fields.specs.WitnessList.{named_grant}
use Rattle.read_fields.specs.WitnessLineSteps.{Known}
use Rattle.judging.specs.BookSays.{Says}
use Rattle.judging.specs.WitnessWords.{line_of}
use Rattle.judging.specs.declared.judgement.BookRead.{BookRead}
use Rattle.admitting.specs.RowsAdmitted.{AdmitReady}
use Rattle.newcomer.specs.WitnessCells.{LinesKept}
use Rattle.newcomer.specs.Ready.{Ready}

module _ {lent : Admission} {text : Bytes} {users : ℕ} {read : BookRead} {has gives : List ℕ}
    (ready : Ready lent text users read has gives) where
  told : LongerSheet lent
  told = longer_sheet_told lent ready.addable

  -- ---- the longer sheet

  pub text_accepted : So (accepted text)
  text_accepted = rw ready.longer_text told.accepts

  pub text_sheet : sheet_of text ≡ longer_sheet lent
  text_sheet = ap sheet_of ready.longer_text

  pub same_permissions : permission_count (longer_sheet lent) ≡ permission_count (given_sheet lent)
  same_permissions =
      ap length (permissions_same lent.sheet lent.line (added_fields lent.line) ready.addable.given
      told.one_line)

  pub one_user_more : user_count (longer_sheet lent) ≡ suc (user_count (given_sheet lent))
  one_user_more =
      users_added lent.sheet lent.line (added_fields lent.line) ready.addable.given told.one_line

  given_lawful : Lawful (given_sheet lent)
  given_lawful = accepted_lawful lent.sheet ready.addable.given

  -- there is a row for the newcomer
  pub room_for_the_user : users < user_limit
  unfolding users_at_limit
  room_for_the_user =
      omega (arith, ready.last, leb-false user_limit (user_count (given_sheet lent)) ready.addable.room)

  -- ---- what the book says

  abbrev pub book_says : Said
  book_says = ready.as_read.says

  says : Says (given_sheet lent) read.counts read.roles has gives read.witness book_says
  says = ready.as_read.says_read

  same : SaysSame (given_sheet lent) (said (given_sheet lent) lent.book) book_says
  same = ready.as_read.same

  pub roles_read : book_says.roles.count ≡ read.roles
  roles_read = ap (λ roles. roles.count) says.matrices

  pub few_roles : read.roles ≤ role_limit
  few_roles = says.few

  -- its count is that of its roles, and neither its bound nor its witness lines are more
  pub count_read : book_says.count ≡ read.roles
  count_read =
      sym same.count ∙ ready.as_read.right.counts.roles ∙ same.roles ∙ roles_read

  no_more_than_roles : (book_says.bound ≤ read.roles)
      × (length book_says.witness ≤ read.roles)
  no_more_than_roles =
      let read_said = said (given_sheet lent) lent.book in
      let most =
      bound_le_roles read_said.standing read_said.bound read_said.roles.count (length read_said.witness)
      ready.as_read.right.counts.bound in
      let roles = same.roles ∙ roles_read in
      (omega (arith, most.0, roles, same.bound), omega (arith, most.1, roles, ap length same.witness))

  pub bound_read : book_says.bound ≤ read.roles
  bound_read = no_more_than_roles.0

  -- ---- the witness

  grant_known : (i : ℕ) → i < read.witness.lines → Known (given_sheet lent) (named_grant (line_of read.witness i))
  grant_known i h =
      let grants = book_says.witness in
      let within : i < length grants = omega (arith, says.collects.counted) in
      let few : i < role_limit = omega (arith, within, no_more_than_roles.1, few_roles) in
      rw (says.collects.named i within few)
      (says.known (grant_at grants i) (member_at grants i (record { user = 0; permission = 0 }) within))

  pub lines_kept : LinesKept read.witness
  lines_kept =
      record {
        few = omega (arith, says.collects.counted, no_more_than_roles.1, few_roles);
        user = λ i h. omega (arith, (grant_known i h).user, given_lawful.few_users);
        permission = λ i h.
            omega (arith, (grant_known i h).permission, given_lawful.few_permissions, permissions_fit);
      }

  -- every grant of it is one of the longer sheet's users and permissions
  pub witness_known : Each (Known (sheet_of text)) book_says.witness
  witness_known g m =
      let known = says.known g m in
      record {
        user = omega (arith, known.user, ap user_count text_sheet, one_user_more);
        permission = omega (arith, known.permission, ap permission_count text_sheet, same_permissions);
      }

  -- ---- the matrices

  pub admit_ready : {rows : List ℕ} → RowsRead rows (sheet_of text) → AdmitReady (sheet_of text) rows users has gives
      read.roles
  admit_ready shown =
      record {
        lawful = accepted_lawful text text_accepted;
        user = omega (arith, ap user_count text_sheet, one_user_more, ready.last);
        shown = shown.rows;
        no_role = λ v r h past l. ready.as_read.role_cells v r (omega (arith, ready.last)) past l;
        no_permission = λ r p h past l.
            says.beyond r p h (omega (arith, ap permission_count text_sheet, same_permissions)) l;
      }
