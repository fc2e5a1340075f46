-- What rows settle: the link set of a link table, told from the rows alone.
use Rattle.std.specs.Prelude.{◌≡◌, ℕ, ◌<◌, Bool, false, cond, ◌&&◌, ◌||◌, ◌⊎◌, List, [], ◌∷◌, length, ◌==◌, nat_le}
use Rattle.model.specs.declared.link.Link.{Link}
use Rattle.model.specs.declared.link.Row.{Row}
use Rattle.model.specs.Links.{link_of}

-- as many links as a link table keeps
abbrev pub most_links : ℕ
most_links = 2048

-- whether l is one of the links
abbrev pub is_in : Link → List Link → Bool
is_in l [] = false
is_in l (x ∷ xs) = (l.low == x.low && l.high == x.high) || is_in l xs

-- What a row adds to the links that are known, the newest first: its link, unless its ends are equal, the link is known, or 2,048 others
-- are.
abbrev pub settle : List Link → Row → List Link
settle known r = cond (r.first == r.second || (is_in (link_of r) known || nat_le most_links (length known))) known (link_of r ∷ known)

-- what rows add to the links that are known, each after the one before it
abbrev pub settle_rows : List Link → List Row → List Link
settle_rows known [] = known
settle_rows known (r ∷ rs) = settle_rows (settle known r) rs

-- what rows settle, from none
abbrev pub settled : List Row → List Link
settled rs = settle_rows [] rs

-- the row names the link: the link's ends are the row's, in one direction or the other, and differ
abbrev pub Names : Row → Link → Type 0
Names r l = (l.low < l.high) × (((r.first ≡ l.low) × (r.second ≡ l.high)) ⊎ ((r.first ≡ l.high) × (r.second ≡ l.low)))

-- one of the rows names the link
abbrev pub Named : List Row → Link → Type 0
Named [] l = ⊥
Named (r ∷ rs) l = Names r l ⊎ Named rs l

-- the two lists of rows name the same links, in whatever order, direction and number
abbrev pub SameRows : List Row → List Row → Type 0
SameRows rs qs = (l : Link) → (Named rs l → Named qs l) × (Named qs l → Named rs l)
