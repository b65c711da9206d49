-- The checker accepts a book exactly when it is right. What it read from an accepted book makes the book right, since
-- a text of the form is what is written for it; and a right book is read as what it says of every user, permission
-- and role, so that every test passes.
use Rattle.std.specs.Prelude.{ℕ, ◌<◌, ◌≡◌, ◌↔◌, length}
use Rattle.std.proofs.Common.{ap, ◌∙◌, eqb-true, eq-eqb}
use Rattle.std.proofs.Math.Bool.{So}
use Rattle.spec.specs.Limits.{book_limit, role_limit}
use Rattle.spec.specs.Text.{Bytes}
use Rattle.spec.specs.Sheet.{Sheet, sheet_of, user_count, permission_count}
use Rattle.spec.specs.Rules.{Keeps}
use Rattle.spec.specs.RoleSet.{cell_after, product, Multiplies}
use Rattle.spec.specs.Book.{Said}
use Rattle.spec.specs.Form.{said}
use Rattle.spec.specs.Right.{OfForm, Right}
use Rattle.spec.specs.Refusal.{refusal, accepted, counts_agree}
use Rattle.spec.specs.Calls.{check_counts, check}
use Rattle.rules.specs.Accepted.{accepted_keeps, accepts_sheets, reads_sheets}
use Rattle.product.specs.Laws.OrOverRoles.{same_opens}
use Rattle.right.specs.NameLaws.{GoodSheet, good_names}
use Rattle.right.specs.WrittenLines.{Sayable}
use Rattle.right.specs.ReadBack.{SaysSame, written_has_form, read_back}
use Rattle.right.specs.ReadForm.{spelling_read, form_is_written, form_is_spelled, form_is_sayable}
use Rattle.right.specs.CheckParts.{counts_agree_elim, counts_agree_intro, product_agrees_elim}
use Rattle.right.specs.CheckParts.{product_agrees_intro, witness_stands_elim, witness_stands_intro}
use Rattle.right.specs.Verdict.{Passes, check_confirms, zero_unrefused, unrefused_zero}

-- ---- what passes is right

pub passes_right : (sheet : Sheet) (text : Bytes) → Passes sheet text → Right sheet text (said sheet text)
unfolding book_limit role_limit
passes_right sheet text p =
    let s = form_is_sayable sheet text p.has_form in
    record {
      of_form = record {
        spelling = spelling_read text;
        written = form_is_written sheet text p.has_form;
        same_names = form_is_spelled sheet text p.has_form;
        short = p.short;
        few_roles = s.few_roles;
        known_users = s.known_users;
        known_permissions = s.known_permissions;
      };
      counts = counts_agree_elim (said sheet text) p.counts;
      product = product_agrees_elim sheet (said sheet text).roles p.product;
      witness = witness_stands_elim sheet (said sheet text).witness p.witness;
    }

-- ---- what is right passes

pub counts_agree_same : (sheet : Sheet) (read written : Said) → SaysSame sheet read written
    → counts_agree read ≡ counts_agree written
unfolding counts_agree
counts_agree_same sheet read written s =
    rw (s.count, s.bound, s.standing, s.roles, s.witness)

pub product_same : (sheet : Sheet) (read written : Said) → SaysSame sheet read written → (u p : ℕ)
    → u < user_count sheet
    → p < permission_count sheet → product read.roles u p ≡ product written.roles u p
unfolding product
product_same sheet read written s u p h k =
    ap (cell_after read.roles u p) s.roles
    ∙ same_opens read.roles written.roles u p written.roles.count
    (λ r l. rw (s.has u r h l, s.gives r p l k))

multiplies_same : (sheet : Sheet) (read written : Said) → SaysSame sheet read written → Multiplies written.roles
    sheet
    → Multiplies read.roles sheet
multiplies_same sheet read written s m =
    record { cell = λ u p h k. product_same sheet read written s u p h k ∙ m.cell u p h k }

of_form_sayable : (sheet : Sheet) (text : Bytes) (says : Said) → OfForm sheet text says → Sayable sheet says
unfolding role_limit
of_form_sayable sheet text says f =
    record {
      few_roles = f.few_roles;
      known_users = f.known_users;
      known_permissions = f.known_permissions;
    }

-- a right book is read as what it says
pub right_read : (sheet : Sheet) → GoodSheet sheet → (text : Bytes) (says : Said) → Right sheet text says
    → SaysSame sheet (said sheet text) says
right_read sheet good text says r =
    let f = r.of_form in
    rw f.written (read_back sheet good says (of_form_sayable sheet text says f) f.spelling f.same_names)

pub right_passes : (sheet : Sheet) → GoodSheet sheet → (text : Bytes) (says : Said) → Right sheet text says
    → Passes sheet text
unfolding book_limit
right_passes sheet good text says r =
    let same = right_read sheet good text says r in
    record {
      short = r.of_form.short;
      has_form = (let f = r.of_form in
          rw f.written (written_has_form sheet good says (of_form_sayable sheet text says f) f.spelling
          f.same_names));
      counts = counts_agree_same sheet (said sheet text) says same ∙ counts_agree_intro says r.counts;
      product = product_agrees_intro sheet (said sheet text).roles (multiplies_same sheet (said sheet text) says same
          r.product);
      witness = rw same.witness (witness_stands_intro sheet says.witness r.witness);
    }

-- ---- the checker's answer

confirmed_same : (read written : Said) → read.roles.count ≡ written.roles.count → length read.witness ≡ length
    written.witness
    → check_counts read ≡ check_counts written
confirmed_same read written e f = rw (e, f)

-- the names of a sheet that keeps the rules are such as a book can hold
pub keeps_good : {text : Bytes} {sheet : Sheet} → Keeps text sheet → GoodSheet sheet
keeps_good kept = record { users = good_names kept.user_names; permissions = good_names kept.permission_names }

-- where the checker accepts a book, its sheet is accepted
pub sheet_accepted : (text book : Bytes) → (check text book).number ≡ 0 → So (accepted text)
sheet_accepted text book z = eq-eqb (refusal text) 0 (zero_unrefused text book z).sheet_stands

-- what the checker read from a book that it accepts makes the book right
pub reads_books : (text book : Bytes) → (check text book).number ≡ 0 → Right (sheet_of text) book
    (said (sheet_of text) book)
reads_books text book z = passes_right (sheet_of text) book (zero_unrefused text book z).book_passes

module _ (text book : Bytes) (sheet : Sheet) (says : Said) (kept : Keeps text sheet) (right : Right sheet book says)
  where
    -- the checker reads from a right book what it says
    pub says_as_read : SaysSame sheet (said (sheet_of text) book) says
    says_as_read = rw (reads_sheets text sheet kept) (right_read sheet (keeps_good kept) book says right)

    -- the checker accepts a right book
    pub right_is_accepted : (check text book).number ≡ 0
    right_is_accepted =
        unrefused_zero text book
        (record {
          sheet_stands = eqb-true (refusal text) 0 ((accepts_sheets text).1 (sheet, kept));
          book_passes = rw (reads_sheets text sheet kept) (right_passes sheet (keeps_good kept) book says right);
        })

    -- and answers its counts
    pub answers_counts : check text book ≡ check_counts says
    answers_counts =
        check_confirms text book right_is_accepted
        ∙ confirmed_same (said (sheet_of text) book) says says_as_read.roles (ap length says_as_read.witness)

-- the checker accepts a book exactly when its sheet keeps the rules and its form, counts, product and witness are right
pub accepts_books : (text book : Bytes)
    → ((check text book).number ≡ 0) ↔ ((sheet : Sheet) × (says : Said) × Keeps text sheet × Right sheet book says)
accepts_books text book = (
  λ z. (
    sheet_of text,
    said (sheet_of text) book,
    accepted_keeps text (sheet_accepted text book z),
    reads_books text
        book z,
  ),
  λ found. right_is_accepted text book found.0 found.1 found.2 found.3,
)
