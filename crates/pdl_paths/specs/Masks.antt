-- Numbers of guards, paths as numbers, and the masks of branches.
use Rattle.std.specs.Prelude.{◌≡◌, ℕ, suc, ◌/◌, ◌%◌, ◌^◌, Bool, true, false, not, ◌&&◌, ◌==◌, nat_lt, List, [], ◌∷◌, ◌++◌, fold, if◌then◌else◌, bit_and, bit_or, All}
use Rattle.pdl_rules.specs.Places.{Guard, Branch, Place, same_guard, is_among}
use Rattle.pdl_rules.specs.Stages.{branches_of}
use Rattle.pdl_paths.specs.declared.mask.Mask.{Mask}
use Rattle.pdl_paths.specs.declared.place.Place as r_place
use Rattle.pdl_paths.specs.Actions.{place_view}

-- the number of a guard among some; how many they are where it is none of them
abbrev pub number_of : Guard → List Guard → ℕ
number_of g [] = 0
number_of g (h ∷ hs) = if same_guard g h then 0 else suc (number_of g hs)

-- one guard more, unless it is there
abbrev pub with_new : Guard → List Guard → List Guard
with_new g gs = if is_among g gs then gs else gs ++ g ∷ []

-- no guard stands twice
abbrev pub are_distinct : List Guard → Bool
are_distinct [] = true
are_distinct (g ∷ gs) = not (is_among g gs) && are_distinct gs

-- the path with these bits: the guards whose bits are 1
abbrev pub path_of : List Guard → ℕ → List Guard
path_of [] bits = []
path_of (g ∷ gs) bits = if bits % 2 == 1 then g ∷ path_of gs (bits / 2) else path_of gs (bits / 2)

-- one more guard, by its number, that must be true, or false; the first sixteen have bits
abbrev pub with_bit : ℕ → Bool → Mask → Mask
with_bit n true m = record { on = bit_or m.on (2 ^ n); off = m.off }
with_bit n false m = record { on = m.on; off = bit_or m.off (2 ^ n) }

-- a mask with the guard of this number, true or false, if the number is below 16
abbrev pub with_number : ℕ → Bool → Mask → Mask
with_number n truth m = if nat_lt n 16 then with_bit n truth m else m

-- whether the path with these bits goes by the mask
abbrev pub allows_path : Mask → ℕ → Bool
allows_path m bits = (bit_and bits m.on == m.on) && (bit_and bits m.off == 0)

-- a mask with one more branch
abbrev pub with_branch : List Guard → Mask → Branch → Mask
with_branch gs m b = with_number (number_of b.guard gs) b.truth m

-- the mask that asks for no guard, and so allows all paths
abbrev pub everywhere : Mask
everywhere = record { on = 0; off = 0 }

-- the mask of what stands in these branches
abbrev pub mask_of : List Guard → List Branch → Mask
mask_of gs bs = fold (with_branch gs) everywhere bs

-- the mask of a place, by the branches in which it stands
abbrev pub mask_in : List Guard → Place → Mask
mask_in gs x = mask_of gs (branches_of x)

-- the masks are those of these guards
abbrev pub IsMasked : List Guard → r_place.Place → Type 0
IsMasked gs x = x.mask ≡ mask_in gs (place_view x)

-- the mask of each of these places is that of these guards
abbrev pub AreMasked : List Guard → List r_place.Place → Type 0
AreMasked gs xs = All (IsMasked gs) xs
