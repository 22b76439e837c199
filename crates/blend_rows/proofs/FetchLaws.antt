-- The half rows that are fetched, one of each row. Assumes nothing.
use Prim.Native.Nat.{ℕ, ◌+◌, ◌-◌, ◌*◌, ◌≤◌, ◌<◌}
use mathlib.Core.List.{List}
use mathlib.Core.Path.{◌≡◌, ap, ◌∙◌}
use lib.IntN.{sub_ℕ}
use lib.ListN.{length, get_or}
use Rattle.lists.specs.Part.{row_of}
use Rattle.lists.specs.Table.{table}
use Rattle.lists.proofs.TableLaws.{length-table}
use Rattle.lists.proofs.PartLaws.{row-length}
use Rattle.bayer.specs.Mirror.{mirror}
use Rattle.bayer.specs.Lent.{Lent}
use Rattle.bayer.proofs.BlockLent.{near-start, near-end}
use Rattle.half_rows.specs.HalfRow.{places, half_column}
use Rattle.bayer.specs.declared.lent.Piece.{Piece}

module _ (piece : Piece) (v side : ℕ) where
  abbrev w : ℕ
  w = piece.frame.width

  -- where row r of those that are fetched is lent
  abbrev pub lent-row : (r : ℕ) → ℕ
  lent-row r = mirror piece.frame.height (sub_ℕ (v + r) 2) - piece.start

  -- its half row
  abbrev pub fetched : (r : ℕ) → List ℕ
  fetched r = table (λ k. get_or (row_of w (lent-row r) piece.readings.now) (mirror w (sub_ℕ (2 * k + side) 2)) 0) (places w)

  pub fetched-length : (r : ℕ) → length (fetched r) ≡ places w
  fetched-length r = length-table _ (places w)

  -- what is made of that row
  pub fetched-from : (r : ℕ) {row : List ℕ} → row ≡ row_of w (lent-row r) piece.readings.now → length row ≡ w → table (half_column side row) (places (length row)) ≡ fetched r
  fetched-from r {row} e h =
      ap (λ (i : ℕ). table (λ k. get_or row (mirror i (sub_ℕ (2 * k + side) 2)) 0) (places i)) h
      ∙ ap (λ (l : List ℕ). table (λ k. get_or l (mirror w (sub_ℕ (2 * k + side) 2)) 0) (places w)) e

-- rows v to v + b − 1 are lent with all around them
module _ (piece : Piece) (v b : ℕ) (lent : (i : ℕ) → i < b → Lent piece.frame piece.start (length piece.readings.now) (v + i)) (some : 0 < b) (r : ℕ) (h : r < b + 4) {m : ℕ} (e : m ≡ mirror piece.frame.height (sub_ℕ (v + r) 2)) where
  -- the row that is read is lent whole
  pub lent-from : piece.start ≤ m
  lent-from = rw e (near-start piece.frame piece.start (length piece.readings.now) v b lent some r h)

  pub lent-to : (m - piece.start + 1) * piece.frame.width ≤ length piece.readings.now
  lent-to = rw e (near-end piece.frame piece.start (length piece.readings.now) v b lent some r h)

  pub lent-long : {row : List ℕ} → row ≡ row_of piece.frame.width (m - piece.start) piece.readings.now → length row ≡ piece.frame.width
  lent-long p = ap length p ∙ row-length piece.frame.width (m - piece.start) piece.readings.now lent-to
