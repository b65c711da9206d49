-- A sheet is accepted exactly when it keeps the rules, and is then read as the sheet that keeps them. Where no cause
-- applies, what the bytes say keeps the rules; and bytes that keep the rules for some sheet are read as that sheet,
-- with no cause. Assumes nothing.
use Rattle.std.specs.Prelude.{◌≡◌, ◌↔◌}
use Rattle.std.proofs.Math.Bool.{So}
use Rattle.spec.specs.Text.{Bytes}
use Rattle.spec.specs.Sheet.{Sheet, sheet_of}
use Rattle.spec.specs.Rules.{Keeps}
use Rattle.spec.specs.Refusal.{accepted}
use Rattle.rules.specs.Unrefused.{accepted_unrefused, unrefused_accepted}
use Rattle.rules.specs.AcceptedKeeps.{unrefused_keeps}
use Rattle.rules.specs.KeepsLaws.{keeps_unrefused, sheet_read}

-- what an accepted sheet says keeps the rules
pub accepted_keeps : (text : Bytes) → So (accepted text) → Keeps text (sheet_of text)
accepted_keeps text p = unrefused_keeps text (accepted_unrefused text p)

-- a sheet is accepted exactly when it keeps the rules
pub accepts_sheets : (text : Bytes) → So (accepted text) ↔ ((sheet : Sheet) × Keeps text sheet)
accepts_sheets text = (
  λ p. (sheet_of text, accepted_keeps text p),
  λ kept. unrefused_accepted text (keeps_unrefused text kept.0
      kept.1),
)

-- a sheet that keeps the rules is read as the sheet it says
pub reads_sheets : (text : Bytes) (sheet : Sheet) → Keeps text sheet → sheet_of text ≡ sheet
reads_sheets text sheet k = sheet_read text sheet k
