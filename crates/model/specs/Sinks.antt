-- Bit sinks and bit sources: what their calls answer and leave.
use Rattle.std.specs.Prelude.{◌≡◌, ℕ, ◌+◌, ◌-◌, ◌<◌, ◌≤◌, Bool, List, [], ◌∷◌, ◌++◌, reverse, length, take, Some, None, Ok, Err, Option}
use Rattle.model.specs.declared.refusal.Refusal.TheVariants.{Full, Unlisted, BadRecord}
use Rattle.model.specs.Cells.{Cell, bit, bad, bits}
use Rattle.model.specs.Refusals.{Answer}

-- A bit sink: what it has taken, oldest first, and how many cells it can hold, which no call changes. (A coder is a sink, and may hold the
-- cells of fault places.)
pub record Sink : Type 0 where
  pub taken : List Cell
  pub limit : ℕ

-- how many more bits it takes
abbrev pub more : Sink → ℕ
more s = s.limit - length s.taken

-- It took all of v, since there was room for it.
abbrev pub Took : List Bool → Sink → Sink → Type 0
Took v s s' = (length s.taken + length v ≤ s.limit) × (s'.taken ≡ s.taken ++ bits v) × (s'.limit ≡ s.limit)

-- There was no room for all of v, and it took just the bits that fit.
abbrev pub Stopped : List Bool → Sink → Sink → Type 0
Stopped v s s' = (s.limit < length s.taken + length v) × (s'.taken ≡ s.taken ++ bits (take (more s) v)) × (s'.limit ≡ s.limit)

-- Bits handed to a sink one by one, until it refuses: for one bit, that it refuses exactly at none more, without effect.
abbrev pub Emitted : List Bool → Sink → Answer (Unit {0}) → Sink → Type 0
Emitted v s (Ok _) s' = Took v s s'
Emitted v s (Err e) s' = (e ≡ Full) × Stopped v s s'

-- A codeword handed to a sink. A symbol that has none is refused first, and nothing changes.
abbrev pub Encoded : Option (List Bool) → Sink → Answer (Unit {0}) → Sink → Type 0
Encoded (Some v) s r s' = Emitted v s r s'
Encoded None s r s' = (r ≡ Err Unlisted) × (s' ≡ s)

-- a codeword from its last bit to its first
abbrev pub reversed : Option (List Bool) → Option (List Bool)
reversed (Some v) = Some (reverse v)
reversed None = None

-- A bit source is the cells to come, next first. Reading takes the next bit; answers none at the end; or answers a fault's number, and the
-- fault stays.
abbrev pub Read : List Cell → Answer (Option Bool) → List Cell → Type 0
Read cs (Ok (Some b)) cs' = cs ≡ bit b ∷ cs'
Read cs (Ok None) cs' = (cs ≡ []) × (cs' ≡ [])
Read cs (Err e) cs' = (k : ℕ) × (rest : List Cell) × (cs ≡ bad k ∷ rest) × (e ≡ BadRecord k) × (cs' ≡ cs)
