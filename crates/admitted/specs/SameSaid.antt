-- To say the same of a sheet is symmetric and transitive, so all that one right book can be taken to say is the same:
-- the checker reads it as each of them.
use Rattle.std.proofs.Common.{sym, ◌∙◌}
use Rattle.spec.specs.Text.{Bytes}
use Rattle.spec.specs.Sheet.{Sheet}
use Rattle.spec.specs.Book.{Said}
use Rattle.spec.specs.Form.{said}
use Rattle.spec.specs.Right.{Right}
use Rattle.right.specs.NameLaws.{GoodSheet}
use Rattle.right.specs.ReadBack.{SaysSame}
use Rattle.right.specs.Exact.{right_read}

pub says_same_sym : (sheet : Sheet) (first second : Said) → SaysSame sheet first second → SaysSame sheet second first
says_same_sym sheet first second same =
    record {
      count = sym same.count;
      bound = sym same.bound;
      standing = sym same.standing;
      roles = sym same.roles;
      has = λ u r h k. sym (same.has u r h (rw same.roles at k));
      gives = λ r p h k. sym (same.gives r p (rw same.roles at h) k);
      witness = sym same.witness;
    }

pub says_same_trans : (sheet : Sheet) (first second third : Said) → SaysSame sheet first second
    → SaysSame sheet second third → SaysSame sheet first third
says_same_trans sheet first second third same next =
    record {
      count = same.count ∙ next.count;
      bound = same.bound ∙ next.bound;
      standing = same.standing ∙ next.standing;
      roles = same.roles ∙ next.roles;
      has = λ u r h k. same.has u r h (rw next.roles k) ∙ next.has u r h k;
      gives = λ r p h k. same.gives r p (rw next.roles h) k ∙ next.gives r p h k;
      witness = same.witness ∙ next.witness;
    }

-- whatever a right book is taken to say is the same: its counts, its bound and its state word, its witness, and its
-- cells of each user, permission and role
pub right_says_same : (sheet : Sheet) → GoodSheet sheet → (text : Bytes) (says other : Said) → Right sheet text says
    → Right sheet text other → SaysSame sheet says other
right_says_same sheet good text says other right also =
    says_same_trans sheet says (said sheet text) other
    (says_same_sym sheet (said sheet text) says (right_read sheet good text says right))
    (right_read sheet good text other also)
