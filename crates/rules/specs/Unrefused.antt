-- A sheet is accepted exactly when none of the nine causes applies, and each of them says of the bytes, lines and
-- names what its own file says. Assumes nothing.
use Rattle.std.specs.Prelude.{◌≤◌, length}
use Rattle.std.proofs.Math.Bool.{So}
use Rattle.std.proofs.Common.{eqb-true, eq-eqb}
use Rattle.spec.specs.Limits.{sheet_limit, grant_limit}
use Rattle.spec.specs.Text.{Bytes, lines_of}
use Rattle.spec.specs.Sheet.{sheet_of, grants}
use Rattle.spec.specs.Refusal.{sheet_causes, refusal, accepted}
use Rattle.rules.specs.CauseLaws.{NoneApplies, zero_none_applies, none_applies_zero, sheet_causes_positive}
use Rattle.rules.specs.ByteCauses.{short_enough, GoodBytes, good_bytes}
use Rattle.rules.specs.LineCauses.{GoodFirstLine, good_first_line, GoodLineCount, good_line_count, EvenLines}
use Rattle.rules.specs.LineCauses.{even_lines, BitLines, bit_lines}
use Rattle.rules.specs.NameCauses.{SizedNames, sized_names, DistinctNames, distinct_names, few_grants}

-- what the nine causes leave
pub record Unrefused (text : Bytes) : Type 0 where
  pub short : length text ≤ sheet_limit
  pub bytes : GoodBytes text
  pub first : GoodFirstLine (lines_of text)
  pub count : GoodLineCount (lines_of text)
  pub sized : SizedNames (sheet_of text)
  pub even : EvenLines (lines_of text)
  pub bits : BitLines (lines_of text)
  pub distinct : DistinctNames (sheet_of text)
  pub few : length (grants (sheet_of text)) ≤ grant_limit

none_applies_unrefused : (text : Bytes) → NoneApplies (sheet_causes text) → Unrefused text
unfolding sheet_causes
none_applies_unrefused text n =
    record {
      short = (short_enough text).0 n.0;
      bytes = (good_bytes text).0 n.1.0;
      first = (good_first_line (lines_of text)).0 n.1.1.0;
      count = (good_line_count (lines_of text)).0 n.1.1.1.0;
      sized = (sized_names (sheet_of text)).0 n.1.1.1.1.0;
      even = (even_lines (lines_of text)).0 n.1.1.1.1.1.0;
      bits = (bit_lines (lines_of text)).0 n.1.1.1.1.1.1.0;
      distinct = (distinct_names (sheet_of text)).0 n.1.1.1.1.1.1.1.0;
      few = (few_grants (sheet_of text)).0 n.1.1.1.1.1.1.1.1.0;
    }

unrefused_none_applies : (text : Bytes) → Unrefused text → NoneApplies (sheet_causes text)
unfolding sheet_causes
unrefused_none_applies text u = (
  (short_enough text).1 u.short,
  (
    (good_bytes text).1 u.bytes,
    (
      (good_first_line (lines_of text)).1 u.first,
      (
        (good_line_count (lines_of text)).1 u.count,
        (
          (sized_names (sheet_of text)).1 u.sized,
          (
            (even_lines (lines_of text)).1 u.even,
            (
              (bit_lines (lines_of text)).1 u.bits,
              ((distinct_names (sheet_of text)).1 u.distinct, ((few_grants (sheet_of text)).1 u.few, tt)),
            ),
          ),
        ),
      ),
    ),
  ),
)

-- to an accepted sheet no cause applies
pub accepted_unrefused : (text : Bytes) → So (accepted text) → Unrefused text
unfolding refusal
accepted_unrefused text p =
    none_applies_unrefused text (zero_none_applies (sheet_causes text) (sheet_causes_positive text)
    (eqb-true (refusal text) 0 p))

-- and back
pub unrefused_accepted : (text : Bytes) → Unrefused text → So (accepted text)
unfolding refusal
unrefused_accepted text u =
    eq-eqb (refusal text) 0 (none_applies_zero (sheet_causes text) (unrefused_none_applies text u))
