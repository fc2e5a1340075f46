-- Reading a run: from the places of a store to links, and how it ends.
use Rattle.std.specs.Prelude.{◌≡◌, ℕ, ◌+◌, ◌^◌, ◌<◌, ◌≤◌, List, [], ◌∷◌, reverse, length, Some, None, Ok, Err, Option}
use Rattle.model.specs.declared.link.Link.{Link}
use Rattle.model.specs.declared.refusal.Refusal.{Refusal}
use Rattle.model.specs.declared.refusal.Refusal.TheVariants.{Bare, TooFar}
use Rattle.model.specs.Cells.{Place, Cell, ahead, cells_of}
use Rattle.model.specs.Codebooks.{Decoded}
use Rattle.model.specs.Coders.{SealTaken}
use Rattle.model.specs.Golomb.{parse}
use Rattle.model.specs.Refusals.{Answer}
use Rattle.model.specs.Runs.{RunStop, start, link_at}

-- Opening a run at the places ps of a store, oldest first: a store without places is refused, and else it is unsealed. The cells to come are
-- then those held, newest first.
abbrev pub RunOpened : ℕ → List Place → Answer (Unit {0}) → List Cell → Type 0
RunOpened w [] r coming = (r ≡ Err Bare) × (coming ≡ [])
RunOpened w (p ∷ ps) r coming = SealTaken w (cells_of w (p ∷ ps)) r (reverse coming)

-- a symbol of 32 bits is read
abbrev pub NumberRead : List Cell → Answer ℕ → List Cell → Type 0
NumberRead cs r cs' = Decoded (parse 32 (ahead cs)) cs r cs'

-- The link after the link `before`, at the symbols d and e: its high end is told to be too far where it passes 2 ^ 32 - 1.
abbrev pub HighEnd : Link → ℕ → Answer ℕ → Answer (Option Link) → Type 0
HighEnd before d (Err why) r = r ≡ Err why
HighEnd before d (Ok e) r =
    let x = link_at before (record { d = d; e = e }) in
    (x.high < 2 ^ 32 → r ≡ Ok (Some x)) × (2 ^ 32 ≤ x.high → r ≡ Err TooFar)

-- The same once d is read: a low end that passes 2 ^ 32 - 1 is told before e is read.
abbrev pub LowEnd : Link → Answer ℕ → List Cell → Answer (Option Link) → List Cell → Type 0
LowEnd before (Err why) cs r cs' = (r ≡ Err why) × (cs' ≡ cs)
LowEnd before (Ok d) cs r cs' =
    (2 ^ 32 ≤ before.low + d → (r ≡ Err TooFar) × (cs' ≡ cs))
    × (before.low + d < 2 ^ 32 → (e : Answer ℕ) × NumberRead cs e cs' × HighEnd before d e r)

-- The next link after the link `before`, or none where no cell is left; or a refusal.
abbrev pub LinkRead : Link → List Cell → Answer (Option Link) → List Cell → Type 0
LinkRead before [] r cs' = (r ≡ Ok None) × (cs' ≡ [])
LinkRead before (c ∷ cs) r cs' = (d : Answer ℕ) × (mid : List Cell) × NumberRead (c ∷ cs) d mid × LowEnd before d mid r cs'

-- Links read one after the other from the cells to come, until none is left or one is refused; and the cells that are then left.
pub data LinksRead : Link → List Cell → List Link → Option Refusal → List Cell → Type 0 where
  at_end : {before : Link} {cs cs' : List Cell} → LinkRead before cs (Ok None) cs' → LinksRead before cs [] None cs'
  at_refusal : {before : Link} {cs cs' : List Cell} {why : Refusal} → LinkRead before cs (Err why) cs' → LinksRead before cs [] (Some why) cs'
  link_then : {before x : Link} {cs mid cs' : List Cell} {xs : List Link} {ending : Option Refusal} → LinkRead before cs (Ok (Some x)) mid → LinksRead x mid xs ending cs' → LinksRead before cs (x ∷ xs) ending cs'

-- The places ps are read to the end, and give these links.
pub record ReadWhole (w : ℕ) (ps : List Place) (xs : List Link) : Type 0 where
  pub opened : List Cell
  pub opens : RunOpened w ps (Ok tt) opened
  pub left : List Cell
  pub reads : LinksRead start opened xs None left

-- Reading the places ps is refused, after these links, and the refusal carries how many they are: at opening none.
pub data ReadStopped (w : ℕ) (ps : List Place) : List Link → RunStop → List Cell → Type 0 where
  at_opening : {why : Refusal} {coming : List Cell} → RunOpened w ps (Err why) coming → ReadStopped w ps [] (record { index = 0; why = why }) coming
  at_link : {opened left : List Cell} {xs : List Link} {why : Refusal} → RunOpened w ps (Ok tt) opened → LinksRead start opened xs (Some why) left → ReadStopped w ps xs (record { index = length xs; why = why }) left
