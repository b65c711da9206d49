-- What is written is the new book. The matrices with the newcomer in them are those of the definitions for what was
-- read of the given book, which says what the book says; its counts are those of the given book where there is no new
-- role; and only cells of the sheet's users, the roles and the sheet's permissions are spelled.
use Rattle.std.specs.Prelude.{ℕ, suc, ◌≤◌, ◌≡◌, refl, Bool, true, false, ◌&&◌, not, List, map, eqb, ltb, length}
use Rattle.std.proofs.Common.{arith, ◌∙◌, eqb-true, eq-eqb, ne_eqb}
use Rattle.std.proofs.Math.Path.{sym, ap}
use Rattle.std.proofs.Math.Bool.{So, cond}
use Rattle.std.proofs.Math.Dec.{leb}
use Rattle.spec.specs.Limits.{role_limit, book_limit, permission_limit}
use Rattle.spec.specs.Text.{Bytes}
use Rattle.spec.specs.Sheet.{Sheet, sheet_of, user_count}
use Rattle.spec.specs.RoleSet.{RoleSet}
use Rattle.spec.specs.Roles.{Standing, unsettled}
use Rattle.spec.specs.Book.{book_text}
use Rattle.spec.specs.Refusal.{refuse_if, refusal}
use Rattle.spec.specs.Newcomer.{Admission, given_sheet, longer_sheet, newcomer, said_given, some_left_over}
use Rattle.spec.specs.Newcomer.{roles_admitting, said_admitting, new_book, too_many_roles}
use Rattle.rules.specs.AcceptedFacts.{accepted_lawful}
use Rattle.cell_rows.specs.CellPlaces.{grant_of}
use Rattle.cell_rows.specs.Laws.Width.{permissions_fit}
use Rattle.standing.specs.StandingCases.{standing_case}
use Rattle.standing.specs.declared.standing.Standing.TheVariants as standing
use Rattle.product.specs.RowAfter.{roles_in}
use Rattle.product.specs.RoleRows.{RolesAt}
use Rattle.book_lines.specs.declared.counts.Counts.{Counts}
use Rattle.book_length.specs.BookRows.{rows_book, rows_book_says}
use Rattle.digits.specs.Capped.{count_cap, capped}
use Rattle.right.specs.ReadBack.{SaysSame}
use Rattle.admitted.specs.RolesAdmitting.{count_admitting}
use Rattle.admitted.specs.SaidAdmitting.{few_with_new}
use Rattle.admitted.specs.SameText.{same_said_same_text}
use Rattle.admitted.specs.SameAdmitting.{GivesSame, some_left_over_same, same_admitting}
use Rattle.judging.specs.declared.judgement.BookRead.{BookRead}
use Rattle.admitting.specs.RowsAdmitted.{no_room, AdmittedAt}
use Rattle.newcomer.specs.NewCounts.{new_counts}
use Rattle.newcomer.specs.Ready.{Ready}
use Rattle.newcomer.specs.Laws.Numbers.{answered_number, roles_refuse, buffer_decides}
use Rattle.newcomer.specs.Laws.ReadyFacts.{text_accepted, text_sheet, same_permissions, one_user_more, book_says}
use Rattle.newcomer.specs.Laws.ReadyFacts.{roles_read, few_roles, count_read, bound_read}

-- a small number is read as it is
small_read : (n : ℕ) → n ≤ role_limit → capped n ≡ n
unfolding count_cap book_limit role_limit permission_limit
small_read n h = omega arith

module _ {lent : Admission} {text : Bytes} {users : ℕ} {read : BookRead} {has gives : List ℕ}
    (ready : Ready lent text users read has gives) where
  -- the role set that was read
  abbrev roles : RoleSet
  roles = roles_in has gives read.roles

  abbrev new : Bool
  new = some_left_over (sheet_of text) users roles

  same : SaysSame (given_sheet lent) (said_given lent) (book_says ready)
  unfolding said_given
  same = ready.as_read.same

  -- it gives what the book's gives
  same_gives : GivesSame (longer_sheet lent) (said_given lent).roles roles
  same_gives =
      let matrices = ready.as_read.says_read.matrices in
      record {
        count = same.roles ∙ roles_read ready;
        gives = λ r p h k.
            same.gives r p (rw (roles_read ready) h) (omega (arith, same_permissions ready))
            ∙ ap (λ (set : RoleSet). set.gives r p) matrices;
      }

  -- ---- 19

  no_room_is_too_many : no_room (sheet_of text) users roles ≡ too_many_roles lent
  unfolding too_many_roles
  no_room_is_too_many =
      ap (λ (sheet : Sheet). no_room sheet users roles) (text_sheet ready)
      ∙ ap (λ (u : ℕ). no_room (longer_sheet lent) u roles) ready.last
      ∙ sym
      (ap (λ (t : Bool). t && leb role_limit (said_given lent).roles.count)
      (some_left_over_same (longer_sheet lent) (newcomer lent) (said_given lent).roles roles same_gives)
      ∙ ap (λ (n : ℕ). some_left_over (longer_sheet lent) (newcomer lent) roles && leb role_limit n)
      same_gives.count)

  module _ (buffer : Bytes) where
    given_accepted : refusal lent.sheet ≡ 0
    given_accepted = eqb-true (refusal lent.sheet) 0 ready.addable.given

    pub refused_for_roles : So (no_room (sheet_of text) users roles) → answered_number lent buffer ≡ 19
    refused_for_roles none =
        roles_refuse lent buffer given_accepted ready.addable.unrefused ready.book_accepted
        ready.addable.new_name ready.addable.room (sym no_room_is_too_many ∙ none)

    pub only_the_buffer : no_room (sheet_of text) users roles ≡ false
        → answered_number lent buffer ≡ refuse_if (ltb (length buffer) (length (new_book lent))) 11 0
    only_the_buffer room =
        buffer_decides lent buffer given_accepted ready.addable.unrefused ready.book_accepted
        ready.addable.new_name ready.addable.room (sym no_room_is_too_many ∙ room)

  -- ---- the new book

  module _ {after_has after_gives : List ℕ} {count : ℕ}
      (joined : AdmittedAt (sheet_of text) users roles after_has after_gives count) where
    abbrev counts : Counts
    counts = new_counts read.counts count read.witness.lines

    -- what they are with a new role
    abbrev new_role_counts : Counts
    new_role_counts = record { roles = count; bound = read.witness.lines; standing = standing.Open }

    roles_before : read.counts.roles ≡ read.roles
    roles_before =
        ready.as_read.says_read.role_number
        ∙ ap capped (count_read ready) ∙ small_read read.roles (few_roles ready)

    bound_before : read.counts.bound ≡ (book_says ready).bound
    bound_before =
        ready.as_read.says_read.bound_number
        ∙ small_read (book_says ready).bound (omega (arith, bound_read ready, few_roles ready))

    count_told : count ≡ cond new (suc read.roles) read.roles
    count_told = joined.at.total ∙ count_admitting (sheet_of text) users roles

    -- there are as many roles as before exactly where nothing is left over
    as_many_as_before : eqb count read.counts.roles ≡ not new
    as_many_as_before = choose new count_told
      where
        choose : (t : Bool) → count ≡ cond t (suc read.roles) read.roles
            → eqb count read.counts.roles ≡ not t
        choose true e = ne_eqb count read.counts.roles (λ z. omega (arith, e, roles_before))
        choose false e = eq-eqb count read.counts.roles (e ∙ sym roles_before)

    pub counted_roles : counts.roles ≡ count
    counted_roles = rw as_many_as_before (choose new count_told)
      where
        choose : (t : Bool) → count ≡ cond t (suc read.roles) read.roles
            → (cond (not t) read.counts new_role_counts).roles ≡ count
        choose true e = refl
        choose false e = roles_before ∙ sym e

    counted_bound : counts.bound ≡ cond new (length (book_says ready).witness) (book_says ready).bound
    counted_bound = rw as_many_as_before (choose new)
      where
        choose : (t : Bool)
            → (cond (not t) read.counts new_role_counts).bound
            ≡ cond t (length (book_says ready).witness) (book_says ready).bound
        choose true = ready.as_read.says_read.collects.counted
        choose false = bound_before

    counted_standing : standing_case counts.standing ≡ cond new unsettled (book_says ready).standing
    counted_standing = rw as_many_as_before (choose new)
      where
        choose : (t : Bool)
            → standing_case (cond (not t) read.counts new_role_counts).standing
            ≡ cond t unsettled (book_says ready).standing
        choose true = refl
        choose false = ready.as_read.says_read.standing

    matrices_at : RolesAt after_has after_gives counts.roles (user_count (sheet_of text))
        (roles_admitting (sheet_of text) users roles)
    matrices_at =
        let total : user_count (sheet_of text) ≡ suc users =
        ap user_count (text_sheet ready) ∙ one_user_more ready ∙ ap suc (sym ready.last) in
        record { rows = rw total joined.at.rows; total = counted_roles ∙ joined.at.total }

    -- what the rows say is what the given book says with the newcomer in it
    rows_say : (cells : List ℕ) → map grant_of cells ≡ (book_says ready).witness
        → rows_book text after_has after_gives cells counts
        ≡ book_text (sheet_of text) (said_admitting (sheet_of text) users (book_says ready))
    unfolding said_admitting
    rows_say cells e =
        rows_book_says text cells counts matrices_at
        (omega (arith, (accepted_lawful text (text_accepted ready)).few_permissions, permissions_fit)) e
        ∙ ap (λ (bound : ℕ). book_text (sheet_of text) (record {
          count = (roles_admitting (sheet_of text) users roles).count;
          bound = bound;
          standing = standing_case counts.standing;
          roles = roles_admitting (sheet_of text) users roles;
          witness = (book_says ready).witness;
        })) counted_bound
        ∙ ap (λ (standing : Standing). book_text (sheet_of text) (record {
          count = (roles_admitting (sheet_of text) users roles).count;
          bound = cond new (length (book_says ready).witness) (book_says ready).bound;
          standing = standing;
          roles = roles_admitting (sheet_of text) users roles;
          witness = (book_says ready).witness;
        })) counted_standing
        ∙ ap (λ (set : RoleSet). book_text (sheet_of text) (record {
          count = (roles_admitting (sheet_of text) users set).count;
          bound = cond (some_left_over (sheet_of text) users set) (length (book_says ready).witness)
              (book_says ready).bound;
          standing = cond (some_left_over (sheet_of text) users set) unsettled (book_says ready).standing;
          roles = roles_admitting (sheet_of text) users set;
          witness = (book_says ready).witness;
        })) (sym ready.as_read.says_read.matrices)

    pub rows_are_the_new_book : (cells : List ℕ) → map grant_of cells ≡ (book_says ready).witness
        → rows_book text after_has after_gives cells counts ≡ new_book lent
    unfolding new_book
    rows_are_the_new_book cells e =
        rows_say cells e
        ∙ ap (λ (sheet : Sheet). book_text sheet (said_admitting sheet users (book_says ready))) (text_sheet ready)
        ∙ ap (λ (u : ℕ). book_text (longer_sheet lent) (said_admitting (longer_sheet lent) u (book_says ready)))
        ready.last
        ∙ sym
        (same_said_same_text (longer_sheet lent) (said_admitting (longer_sheet lent) (newcomer lent) (said_given lent))
        (said_admitting (longer_sheet lent) (newcomer lent) (book_says ready))
        (same_admitting (given_sheet lent) (longer_sheet lent) (same_permissions ready) (one_user_more ready)
        (said_given lent) (book_says ready) same))

    -- there is a place for each role
    pub room_for_roles : counts.roles ≤ role_limit
    room_for_roles =
        rw (counted_roles ∙ count_told) (few_with_new new read.roles (few_roles ready) joined.room)
