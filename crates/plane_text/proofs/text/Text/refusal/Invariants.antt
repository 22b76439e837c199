-- The letters so far. Assumes nothing.
use Rattle.std.proofs.Common.{◌≡◌, take, length}
use Rattle.plane_text.proofs.text.Text.refusal.Given as goal

abbrev pub invariant-loop-byte : goal.invariant-loop-byte
invariant-loop-byte l = (l.text ≡ take l.byte-index l.byte-items) × (length l.text ≡ l.byte-index)
