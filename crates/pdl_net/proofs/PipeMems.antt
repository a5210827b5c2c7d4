-- The memories that the ports and arrays of a netlist tell.
use Rattle.std.proofs.Common.{◌≡◌, List, [], ◌∷◌, length, map, take, filter, find, Option, Some, None, bytes_eq, refl, sym, ap, ◌∙◌, arith}
use Rattle.std.proofs.lemmas.List.{take_at}
use Rattle.pdl_kit.specs.declared.mem_info.MemInfo.{MemInfo}
use Rattle.pdl_net.specs.declared.Array.{Array}
use Rattle.pdl_net.specs.declared.Netlist.{Netlist}
use Rattle.pdl_net.specs.Run.{delayed_mems}
use Rattle.pdl_net.specs.Pipe.{PortMem, IsPipe, comb_info, delayed_info, mems_of}

-- without delayed memories there is none among the ports
pub none_delayed : (delayed locked : List PortMem) (arrays : List Array)
    → filter (λ m. m.delayed) (mems_of delayed locked arrays) ≡ [] → delayed ≡ []
none_delayed [] locked arrays e = refl
none_delayed (d ∷ ds) locked arrays e = let n = ap length e in absurd (omega (arith, n))

-- no memory of an array is delayed
none_of_arrays : (locked : List PortMem) (arrays : List Array)
    → filter (λ m. m.delayed) (map (λ a. comb_info a (find (λ m. bytes_eq m.name a.name) locked)) arrays) ≡ []
none_of_arrays locked [] = refl
none_of_arrays locked (a ∷ arrays) =
    let rest = map (λ b. comb_info b (find (λ m. bytes_eq m.name b.name) locked)) arrays in
    let P : Option PortMem → Type 0 = λ o. filter (λ m. m.delayed) (comb_info a o ∷ rest) ≡ [] in
    let later = none_of_arrays locked arrays in
    elim (find (λ m. bytes_eq m.name a.name) locked) as P [ None ↦ later | Some m ↦ later ]

delayed_first : (delayed locked : List PortMem) (arrays : List Array)
    → filter (λ m. m.delayed) (mems_of delayed locked arrays) ≡ map delayed_info delayed
delayed_first [] locked arrays = none_of_arrays locked arrays
delayed_first (d ∷ ds) locked arrays = ap (λ l. delayed_info d ∷ l) (delayed_first ds locked arrays)

-- the delayed memories of a netlist are those that its ports tell, and stand in front
pub delayed_told : (n : Netlist) (p : IsPipe n) → delayed_mems n ≡ map delayed_info p.delayed
delayed_told n p = ap (filter (λ m. m.delayed)) p.mems ∙ delayed_first p.delayed p.locked n.arrays

-- the delayed memories of a pipe's netlist are its first ones
pub delayed_in_front : (n : Netlist) (p : IsPipe n) → delayed_mems n ≡ take (length (delayed_mems n)) n.mems
delayed_in_front n p =
    let front = map delayed_info p.delayed in
    let rest = map (λ a. comb_info a (find (λ m. bytes_eq m.name a.name) p.locked)) n.arrays in
    let e = delayed_told n p in
    e ∙ sym (take_at front rest (length front) refl) ∙ ap (take (length front)) (sym p.mems) ∙ ap (λ (l : List MemInfo). take (length l) n.mems) (sym e)

-- the memory that an array and the locked memories tell
abbrev pub told : List PortMem → Array → MemInfo
told locked a = comb_info a (find (λ m. bytes_eq m.name a.name) locked)

-- the memory that an array tells has the array's name
pub told_name : (a : Array) (o : Option PortMem) → (comb_info a o).name ≡ a.name
told_name a None = refl
told_name a (Some m) = refl

-- the names of these memories are those of the arrays
pub told_names : (locked : List PortMem) (xs : List Array)
    → map (λ (m : MemInfo). m.name) (map (told locked) xs) ≡ map (λ (a : Array). a.name) xs
told_names locked [] = refl
told_names locked (a ∷ xs) =
    ap (λ z. z ∷ map (λ (m : MemInfo). m.name) (map (told locked) xs)) (told_name a (find (λ m. bytes_eq m.name a.name) locked))
    ∙ ap (λ z. a.name ∷ z) (told_names locked xs)
