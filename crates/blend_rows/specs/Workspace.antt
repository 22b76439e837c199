-- Room to work out a row in, by the lengths of its parts. Assumes nothing.
use Rattle.std.specs.Prelude.{ℕ, ◌≡◌, length}
use Rattle.blend_rows.specs.declared.workspace.Workspace.{Workspace}
use Rattle.blend_rows.specs.BlendIn.{Room}

-- it suffices for a row w wide
abbrev pub RoomFor : (w : ℕ) (s : Workspace) → Type 0
RoomFor w s = Room w (length s.variations.now) (length s.estimates.now) (length s.half.now) (length s.other_half.now)

-- each part is as long as before
pub record SameSizes (old new : Workspace) : Type 0 where
  pub variations : length new.variations.now ≡ length old.variations.now
  pub estimates : length new.estimates.now ≡ length old.estimates.now
  pub half : length new.half.now ≡ length old.half.now
  pub other_half : length new.other_half.now ≡ length old.other_half.now
