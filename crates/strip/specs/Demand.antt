-- Lists of strip calls over one frame and three whole planes: what is asked of the calls, and what then holds. Assumes nothing.
use Rattle.std.specs.Prelude.{ℕ, ◌+◌, ◌*◌, ◌≤◌, ◌<◌, ◌≡◌, ◌⊎◌, List, [], ◌∷◌, length, get_or}
use Rattle.whole.specs.Fraction.{natural, Within}
use Rattle.lists.specs.Part.{part, put}
use Rattle.bayer.specs.declared.colour.Colour.{Colour}
use Rattle.bayer.specs.declared.colour.Colour.TheVariants.{Red, Green, Blue}
use Rattle.bayer.specs.declared.frame.Frame.{Frame}
use Rattle.bayer.specs.Frame.{smoothed}
use Rattle.bayer.specs.Colour.{colour_at}
use Rattle.bayer.specs.Piece.{piece_of}
use Rattle.bayer.specs.Planes.{Planes}
use Rattle.demosaic.specs.Exact.{exact_sample, printed_error}
use Rattle.strip.specs.Strip.{Asked, strip_number, Promise}

-- a call: what it asks for, by which entry, and the part of each plane that it is lent
pub record StripCall : Type 0 where
  pub asked : Asked
  pub from : Colour → ℕ
  pub size : Colour → ℕ

abbrev pub number_of : StripCall → ℕ
number_of c = strip_number c.asked (c.size Red) (c.size Green) (c.size Blue)

-- no refusal of the call's own entry holds
abbrev pub Accepted : StripCall → Type 0
Accepted c = number_of c ≡ 0

-- of an accepted call: it names f's width, height and layout, whatever its smoothing, brings its rows of `readings`, and what it is lent of each plane starts where its first row does; as accepted, it is lent n × W samples
pub record OfMosaic (f : Frame) (readings : List ℕ) (c : StripCall) : Type 0 where
  pub frame : c.asked.frame ≡ smoothed f.width f.height f.layout c.asked.frame.smoothing
  pub piece : c.asked.piece ≡ piece_of f.width f.height c.asked.first c.asked.count readings
  pub rows : (k : Colour) → c.from k ≡ c.asked.first * f.width

-- of an accepted call of demand 3: it names f's smoothing too
pub record OfFrame (f : Frame) (readings : List ℕ) (c : StripCall) : Type 0 where
  pub mosaic : OfMosaic f readings c
  pub smoothing : c.asked.frame.smoothing ≡ f.smoothing

-- of any call of a list of demand 3: accepted, it is of the frame; and it is lent parts of planes of the frame's size
pub record Callable (f : Frame) (readings : List ℕ) (c : StripCall) : Type 0 where
  pub premise : Accepted c → OfFrame f readings c
  pub inside : (k : Colour) → c.from k + c.size k ≤ f.width * f.height

-- a call finds the planes p and leaves q. Nothing but its contract is known of it, and the premise is asked of accepted calls only: `OfFrame f readings` for demand 3, `OfMosaic f readings` where smoothings may differ
pub record Called (Premise : StripCall → Type 0) (c : StripCall) (p q : Planes) : Type 0 where
  pub premise : Accepted c → Premise c
  pub inside : (k : Colour) → c.from k + c.size k ≤ length (p k)
  pub answer : ℕ
  pub after : Planes
  pub promise : Promise c.asked (λ k. part (c.from k) (c.size k) (p k)) answer after
  pub rest : (k : Colour) → q k ≡ put (c.from k) (after k) (p k)

-- a list of calls, each of which finds what the one before it left
abbrev pub CalledAll : (Premise : StripCall → Type 0) → List StripCall → (p q : Planes) → Type 0
CalledAll Premise [] p q = (k : Colour) → q k ≡ p k
CalledAll Premise (c ∷ l) p q = (m : Planes) × Called Premise c p m × CalledAll Premise l m q

-- an accepted call of the list covers row i
abbrev pub CoveredBy : List StripCall → (i : ℕ) → Type 0
CoveredBy [] i = ⊥
CoveredBy (c ∷ l) i = (Accepted c × (c.asked.first ≤ i) × (i < c.asked.first + c.asked.count)) ⊎ CoveredBy l i

-- in every covered row the samples of plane k are within so many hundredths of the exact reconstruction of the frame, by f's smoothing
abbrev pub NearExact : Frame → (readings : List ℕ) → List StripCall → (q : Planes) (k : Colour) (hundredths : ℕ) → Type 0
NearExact f readings l q k hundredths = (i j : ℕ) → CoveredBy l i → j < f.width → Within (natural (get_or (q k) (i * f.width + j) 0)) (exact_sample f 0 readings k i j) hundredths 100

-- what holds whatever the calls' smoothings are, of the planes p before the list and q after it
pub record Kept (f : Frame) (readings : List ℕ) (l : List StripCall) (p q : Planes) : Type 0 where
  -- in a covered row the observed sample is 16 times the reading
  pub observed : (i j : ℕ) → CoveredBy l i → j < f.width → get_or (q (colour_at f.layout i j)) (i * f.width + j) 0 ≡ 16 * get_or readings (i * f.width + j) 0
  -- every other row is as before
  pub others : (k : Colour) (i j : ℕ) → ¬ CoveredBy l i → j < f.width → get_or (q k) (i * f.width + j) 0 ≡ get_or (p k) (i * f.width + j) 0
  pub lengths : (k : Colour) → length (q k) ≡ f.width * f.height

-- DEMAND 3, of lists whose accepted calls name one frame, and so one smoothing
pub record Demanded (f : Frame) (readings : List ℕ) (l : List StripCall) (p q : Planes) : Type 0 where
  -- each plane is within its printed hundredths
  pub near : (k : Colour) → NearExact f readings l q k (printed_error k)
  pub kept : Kept f readings l p q

-- the printed error as users cite it
pub record Cited (f : Frame) (readings : List ℕ) (l : List StripCall) (q : Planes) : Type 0 where
  pub red : NearExact f readings l q Red 155
  pub green : NearExact f readings l q Green 53
  pub blue : NearExact f readings l q Blue 155
