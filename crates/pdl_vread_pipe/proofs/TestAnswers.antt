-- What the tests answer.
use Rattle.std.proofs.Common.{◌≡◌, true, false, cond, leb, List, get_or, Some, None, All, sym, ap, ◌∙◌, subst}
use Rattle.std.specs.List.{list_all}
use Rattle.std.proofs.lemmas.Bool.{and_parts, leb-true}
use Rattle.std.proofs.lemmas.List.Sums.{AllPass-from_list_all}
use Rattle.pdl_kit.specs.declared.mem_info.MemInfo.{MemInfo}
use Rattle.pdl_net.specs.declared.Netlist.{Netlist}
use Rattle.pdl_net.specs.Pipe.{PortMem, mems_of}
use Rattle.pdl_vread_pipe.specs.declared.shape.Shape.{Shape}
use Rattle.pdl_vread_pipe.specs.ToldParts.{told}
use Rattle.pdl_vread_pipe.specs.ExpectedPorts.{heads}
use Rattle.pdl_vread_pipe.specs.Tests as spec
use Rattle.pdl_vread_pipe.specs.Tests.{judged}

-- where the tests pass, the netlist is judged to have the memories that its ports and arrays tell
pub taken : (n : Netlist) (s : Shape) (ms : List MemInfo)
    → s ≡ told (heads n.ports) → spec.is_pipe n s ≡ true → ms ≡ mems_of s.delayed s.locked n.arrays → Some ms ≡ judged n
unfolding judged
taken n s ms e h m =
    let P : Shape → Type 0 = λ t. Some ms ≡ cond (spec.is_pipe n t) (Some (mems_of t.delayed t.locked n.arrays)) None in
    let k : P s = ap Some m ∙ ap (λ b. cond b (Some (mems_of s.delayed s.locked n.arrays)) None) (sym h) in
    subst P e k

-- where the tests fail, the netlist is judged to be no pipe's
pub refused : (n : Netlist) (s : Shape) → s ≡ told (heads n.ports) → spec.is_pipe n s ≡ false → None ≡ judged n
unfolding judged
refused n s e h =
    let P : Shape → Type 0 = λ t. None ≡ cond (spec.is_pipe n t) (Some (mems_of t.delayed t.locked n.arrays)) None in
    let k : P s = ap (λ b. cond b (Some (mems_of s.delayed s.locked n.arrays)) None) (sym h) in
    subst P e k

short_all : (ms : List PortMem) → list_all spec.has_address ms ≡ true → All spec.IsShort ms
short_all ms h = λ k d l.
    let m = get_or ms k d in
    leb-true m.bits 16 (and_parts (leb 1 m.bits) (leb m.bits 16) (AllPass-from_list_all spec.has_address ms h k d l)).1

mems_pass : (n : Netlist) (s : Shape) → spec.is_pipe n s ≡ true → spec.has_mems s n.arrays ≡ true
mems_pass n s h = (and_parts (spec.has_ports (heads n.ports) s) (spec.has_mems s n.arrays) (and_parts (spec.has_counts s n.arrays) _ h).1).1

-- the delayed memories of a netlist that passes the tests have short addresses
pub short_delayed : (n : Netlist) (s : Shape) → spec.is_pipe n s ≡ true → All spec.IsShort s.delayed
short_delayed n s h = short_all s.delayed (and_parts (list_all spec.has_address s.delayed) _ (mems_pass n s h)).0

-- the memories with locks of a netlist that passes the tests have short addresses
pub short_locked : (n : Netlist) (s : Shape) → spec.is_pipe n s ≡ true → All spec.IsShort s.locked
short_locked n s h =
    short_all s.locked (and_parts (list_all spec.has_address s.locked) _ (and_parts (list_all spec.has_address s.delayed) _ (mems_pass n s h)).1).0

pub ruleset judging = (taken, refused, short_delayed, short_locked)
