-- Links and sets of links.
use Rattle.std.specs.Prelude.{◌≡◌, ℕ, ◌^◌, ◌<◌, min, max, Bool, ◌&&◌, ◌||◌, ◌⊎◌, List, [], ◌∷◌, ◌++◌, codes, ◌==◌, nat_lt}
use Rattle.std.specs.Fmt.{decimal}
use Rattle.model.specs.declared.link.Link.{Link}
use Rattle.model.specs.declared.link.Row.{Row}

-- the link of a row's two ends, the lower number first
abbrev pub link_of : Row → Link
link_of r = record { low = min r.first r.second; high = max r.first r.second }

-- the bytes that show a link: its two ends with a dash between
abbrev pub link_text : Link → List ℕ
link_text x = decimal x.low ++ codes "-" ++ decimal x.high

-- two different nodes with 32-bit numbers, the lower one first
abbrev pub IsLink : Link → Type 0
IsLink x = (x.low < x.high) × (x.high < 2 ^ 32)

-- its test
abbrev pub is_link : Link → Bool
is_link x = nat_lt x.low x.high && nat_lt x.high (2 ^ 32)

-- x comes before y: by the low end, then by the high end
abbrev pub Before : Link → Link → Type 0
Before x y = (x.low < y.low) ⊎ ((x.low ≡ y.low) × (x.high < y.high))

-- its test
abbrev pub before : Link → Link → Bool
before x y = nat_lt x.low y.low || (x.low == y.low && nat_lt x.high y.high)

-- l is one of the links
abbrev pub In : Link → List Link → Type 0
In l [] = ⊥
In l (x ∷ xs) = (l ≡ x) ⊎ In l xs

-- the two lists have the same links, in whatever order and however often: as sets they are equal
abbrev pub SameLinks : List Link → List Link → Type 0
SameLinks xs ys = (l : Link) → (In l xs → In l ys) × (In l ys → In l xs)

-- P holds of each
abbrev pub Each : {A : Type 0} → (A → Type 0) → List A → Type 0
Each P [] = Unit {0}
Each P (x ∷ xs) = P x × Each P xs

-- each comes before the next, and the first after x
abbrev pub AscendingFrom : Link → List Link → Type 0
AscendingFrom x [] = Unit {0}
AscendingFrom x (y ∷ ys) = Before x y × AscendingFrom y ys

abbrev pub Ascending : List Link → Type 0
Ascending [] = Unit {0}
Ascending (x ∷ xs) = AscendingFrom x xs

-- A link set, of any size, by the one list that has its links ascending.
abbrev pub LinkSet : List Link → Type 0
LinkSet xs = Each IsLink xs × Ascending xs
