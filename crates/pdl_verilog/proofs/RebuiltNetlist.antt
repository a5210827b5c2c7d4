-- The netlist that is built of what a netlist's text declares is that netlist.
use Rattle.std.proofs.Common.{◌≡◌, ℕ, suc, ◌+◌, ◌-◌, ◌<◌, cond, eqb, List, [], ◌∷◌, length, map, get_or, refl, ap, ap₂, ◌∙◌, arith}
use Rattle.std.proofs.lemmas.Bool.{cond-true}
use Rattle.pdl_word.proofs.Numbers.{eqb_self}
use Rattle.pdl_net.specs.declared.Net.TheVariants.{Input}
use Rattle.pdl_net.specs.declared.Dir.{Dir}
use Rattle.pdl_net.specs.declared.Dir.TheVariants.{In, Out}
use Rattle.pdl_net.specs.declared.Port.{Port}
use Rattle.pdl_net.specs.declared.Reg.{Reg}
use Rattle.pdl_net.specs.declared.Array.{Array}
use Rattle.pdl_net.specs.declared.Netlist.{Netlist}
use Rattle.pdl_net.specs.Circuit.{circuit_of, no_reg, no_array}
use Rattle.pdl_net.specs.Well.{IsWidth}
use Rattle.pdl_net.specs.Pipe.{is_input, IsWellFormed}
use Rattle.pdl_vread_text.specs.declared.file.RegDecl.{RegDecl}
use Rattle.pdl_vread_nets.specs.declared.wiring.OutputDrive.{OutputDrive}
use Rattle.pdl_vread_nets.specs.declared.wiring.RegDrive.{RegDrive}
use Rattle.pdl_vread_nets.specs.declared.wiring.ArrayWrite.{ArrayWrite}
use Rattle.pdl_vread_pipe.specs.ToldParts.{with_mems}
use Rattle.pdl_vread.specs.Built.{driver, port, ports, undriven, given, driven, regs, writes, arrays, built}
use Rattle.pdl_verilog.specs.Declared.{Lines, declared, wiring_of, port_decl, reg_name, reg_decls, array_decls, onto_output, output_drives, reg_drives, block_writes}
use Rattle.pdl_verilog.proofs.Table.{bits_back, depth_back, IsSized, well_ports, well_regs, well_arrays, port_wide, reg_wide, all_sized}
use Rattle.pdl_verilog.proofs.FoundDrives.{no_port, of_port, ports_at, driver_kept, of_reg, reg_drive, regs_at, driven_kept, writes_at}
use Rattle.pdl_word.specs.Each.{Each}

-- ---- ports

dir_back : (k : ℕ) (d : Dir) → cond (is_input d) In (Out (driver k (Input 0) (onto_output k d []))) ≡ d
dir_back k In = refl
dir_back k (Out x) = ap Out (cond-true (eqb k k) x (Input 0) (eqb_self k))

port_back : (line k : ℕ) (p : Port) (drives : List OutputDrive) → IsWidth p.width
    → of_port k drives ≡ onto_output k p.dir [] → port (port_decl line p) (driver k (Input 0) drives) ≡ p
port_back line k p drives w h =
    let wide = bits_back p.width w in
    let net : driver k (Input 0) drives ≡ driver k (Input 0) (onto_output k p.dir []) = driver_kept k (Input 0) drives ∙ ap (driver k (Input 0)) h in
    let way = ap (λ x. cond (is_input p.dir) In (Out x)) net ∙ dir_back k p.dir in
    λ q. record { name = p.name; width = wide q; dir = way q }

ports_back : (line k : ℕ) (drives : List OutputDrive) (ps : List Port) → Each (λ p. IsWidth p.width) ps
    → ((j i : ℕ) → k + j ≡ i → j < length ps → of_port i drives ≡ onto_output i (get_or ps j no_port).dir [])
    → ports drives k (map (port_decl line) ps) ≡ ps
ports_back line k drives [] w h = refl
ports_back line k drives (p ∷ ps) w h =
    ap₂ (λ x xs. x ∷ xs) (port_back line k p drives w.0 (h 0 k (omega arith) (omega arith)))
    (ports_back line (suc k) drives ps w.1 (λ j i e l. h (suc j) i (omega arith) (omega arith)))

-- ---- registers

reg_back : (line k : ℕ) (x : Reg) (drives : List RegDrive) → IsWidth x.width
    → of_reg k drives ≡ reg_drive k x ∷ []
    → driven k (undriven (record { line = line; name = reg_name k; high = x.width - 1 })) drives ≡ x
reg_back line k x drives w h =
    let d : RegDecl = record { line = line; name = reg_name k; high = x.width - 1 } in
    let y = undriven d in
    let wide = bits_back x.width w in
    let last : given y (reg_drive k x) ≡ x = λ q. record { width = wide q; reset = x.reset; next = x.next } in
    driven_kept k y drives ∙ (ap (driven k y) h ∙ (cond-true (eqb k k) (given y (reg_drive k x)) y (eqb_self k) ∙ last))

regs_back : (at : ℕ → ℕ) (k : ℕ) (drives : List RegDrive) (xs : List Reg) → Each (λ x. IsWidth x.width) xs
    → ((j i : ℕ) → k + j ≡ i → j < length xs → of_reg i drives ≡ reg_drive i (get_or xs j no_reg) ∷ [])
    → regs drives k (reg_decls at k xs) ≡ xs
regs_back at k drives [] w h = refl
regs_back at k drives (x ∷ xs) w h =
    ap₂ (λ y ys. y ∷ ys) (reg_back (at k) k x drives w.0 (h 0 k (omega arith) (omega arith)))
    (regs_back at (suc k) drives xs w.1 (λ j i e l. h (suc j) i (omega arith) (omega arith)))

-- ---- arrays

arrays_back : (at : ℕ → ℕ) (m : ℕ) (blocks : List (List ArrayWrite)) (xs : List Array) → Each IsSized xs
    → ((j i : ℕ) → m + j ≡ i → j < length xs → writes i blocks ≡ (get_or xs j no_array).writes)
    → arrays blocks m (array_decls at m xs) ≡ xs
arrays_back at m blocks [] w h = refl
arrays_back at m blocks (a ∷ xs) w h =
    let wide = bits_back a.width w.0.0 in
    let deep = depth_back a.depth w.0.1 in
    let mine : writes m blocks ≡ a.writes = h 0 m (omega arith) (omega arith) in
    let rest = arrays_back at (suc m) blocks xs w.1 (λ j i e l. h (suc j) i (omega arith) (omega arith)) in
    λ q. record { name = a.name; width = wide q; depth = deep q; writes = mine q } ∷ rest q

-- what is built of a well formed netlist's declarations, with its memories, is that netlist
pub again : (lines : Lines) (n : Netlist) → IsWellFormed n → with_mems (built (declared lines n) (wiring_of n)) n.mems ≡ n
unfolding built
again lines n h =
    let c = circuit_of n in
    let w = h.well in
    let ps =
    ports_back lines.ports 0 (output_drives 0 n.ports) n.ports (port_wide c n.ports (well_ports c w)) (λ j i e l. ports_at 0 j i n.ports no_port e l) in
    let rs = regs_back lines.regs 0 (reg_drives 0 n.regs) n.regs (reg_wide c n.regs (well_regs c w)) (λ j i e l. regs_at 0 j i n.regs no_reg e l) in
    let qs =
    arrays_back lines.arrays 0 (block_writes 0 n.arrays) n.arrays (all_sized c n.arrays (well_arrays c w))
    (λ j i e l. writes_at 0 j i n.arrays no_array e l) in
    λ q. record { name = n.name; ports = ps q; regs = rs q; arrays = qs q; cells = n.cells; mems = n.mems }
