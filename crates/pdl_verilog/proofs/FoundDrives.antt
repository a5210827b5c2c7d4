-- What drives an output, a register or an array is found among all that drives something.
use Rattle.std.proofs.Common.{◌≡◌, ℕ, zero, suc, ◌+◌, ◌<◌, Bool, true, false, cond, ◌||◌, eqb, List, [], ◌∷◌, length, map, get_or, count_by, filter, refl, sym, ap, ◌∙◌, arith}
use Rattle.std.proofs.lemmas.Bool.{cond-true, cond-false, eq-eqb, ne_eqb}
use Rattle.std.proofs.lemmas.List.Sums.{length-filter}
use Rattle.pdl_net.specs.declared.Net.{Net}
use Rattle.pdl_net.specs.declared.Dir.{Dir}
use Rattle.pdl_net.specs.declared.Dir.TheVariants.{In, Out}
use Rattle.pdl_net.specs.declared.Port.{Port}
use Rattle.pdl_net.specs.declared.Reg.{Reg}
use Rattle.pdl_net.specs.declared.WritePort.{WritePort}
use Rattle.pdl_net.specs.declared.Array.{Array}
use Rattle.pdl_net.specs.Pipe.{is_input}
use Rattle.pdl_vread_nets.specs.declared.wiring.OutputDrive.{OutputDrive}
use Rattle.pdl_vread_nets.specs.declared.wiring.RegDrive.{RegDrive}
use Rattle.pdl_vread_nets.specs.declared.wiring.ArrayWrite.{ArrayWrite}
use Rattle.pdl_vread.specs.Built.{driver, given, driven, writes}
use Rattle.pdl_verilog.specs.Declared.{onto_output, output_drives, reg_drives, written_to, onto_writes, block_writes}

-- ---- outputs

-- a port in place of one that isn't there
abbrev pub no_port : Port
no_port = record { name = []; width = 0; dir = In }

-- what drives the i-th port
abbrev pub of_port : ℕ → List OutputDrive → List OutputDrive
of_port i drives = filter (λ o. eqb o.port i) drives

ports_below : (i k : ℕ) (ps : List Port) → i < k → of_port i (output_drives k ps) ≡ []
ports_below i k [] l = refl
ports_below i k (p ∷ ps) l = go p.dir (ports_below i (suc k) ps (omega arith))
  where
    go : (d : Dir) → of_port i (output_drives (suc k) ps) ≡ [] → of_port i (onto_output k d (output_drives (suc k) ps)) ≡ []
    go In h = h
    go (Out x) h =
        let rest = of_port i (output_drives (suc k) ps) in
        cond-false (eqb k i) (record { port = k; net = x } ∷ rest) rest (ne_eqb k i (λ e. omega arith)) ∙ h

-- what drives the j-th of these ports is just its own net, or nothing for an input
pub ports_at : (k j i : ℕ) (ps : List Port) (z : Port)
    → k + j ≡ i → j < length ps → of_port i (output_drives k ps) ≡ onto_output i (get_or ps j z).dir []
ports_at k j i [] z e l = absurd (omega arith)
ports_at k zero i (p ∷ ps) z e l = go p.dir (ports_below i (suc k) ps (omega arith))
  where
    go : (d : Dir) → of_port i (output_drives (suc k) ps) ≡ [] → of_port i (onto_output k d (output_drives (suc k) ps)) ≡ onto_output i d []
    go In h = h
    go (Out x) h =
        let rest = of_port i (output_drives (suc k) ps) in
        let s : k ≡ i = omega arith in
        cond-true (eqb k i) (record { port = k; net = x } ∷ rest) rest (eq-eqb k i s) ∙ (λ q. record { port = s q; net = x } ∷ h q)
ports_at k (suc j) i (p ∷ ps) z e l = go p.dir (ports_at (suc k) j i ps z (omega arith) (omega arith))
  where
    go : (d : Dir) → of_port i (output_drives (suc k) ps) ≡ onto_output i (get_or ps j z).dir []
        → of_port i (onto_output k d (output_drives (suc k) ps)) ≡ onto_output i (get_or ps j z).dir []
    go In h = h
    go (Out x) h =
        let rest = of_port i (output_drives (suc k) ps) in
        cond-false (eqb k i) (record { port = k; net = x } ∷ rest) rest (ne_eqb k i (λ q. omega arith)) ∙ h

-- a port that is an output is driven once, where its drives are its own one alone
pub driven_once : (i : ℕ) (d : Dir) (drives : List OutputDrive)
    → of_port i drives ≡ onto_output i d [] → (is_input d || eqb (count_by (λ o. eqb o.port i) drives) 1) ≡ true
driven_once i In drives h = refl
driven_once i (Out x) drives h = eq-eqb (count_by (λ o. eqb o.port i) drives) 1 (sym (length-filter (λ (o : OutputDrive). eqb o.port i) drives) ∙ ap length h)

-- only what drives a port tells its net
pub driver_kept : (i : ℕ) (x : Net) (drives : List OutputDrive) → driver i x drives ≡ driver i x (of_port i drives)
driver_kept i x [] = refl
driver_kept i x (o ∷ os) = go (eqb o.port i) refl (λ y. driver_kept i y os)
  where
    go : (b : Bool) → eqb o.port i ≡ b → ((y : Net) → driver i y os ≡ driver i y (of_port i os))
        → driver i (cond b o.net x) os ≡ driver i x (cond b (o ∷ of_port i os) (of_port i os))
    go true e h = h o.net ∙ ap (λ b. driver i (cond b o.net x) (of_port i os)) (sym e)
    go false e h = h x

-- ---- registers

-- what drives the i-th register
abbrev pub of_reg : ℕ → List RegDrive → List RegDrive
of_reg i drives = filter (λ b. eqb b.reg i) drives

-- what drives the r-th register: its reset value and its next net
abbrev pub reg_drive : ℕ → Reg → RegDrive
reg_drive r x = record { reg = r; width = x.width; reset = x.reset; net = x.next }

regs_below : (i k : ℕ) (xs : List Reg) → i < k → of_reg i (reg_drives k xs) ≡ []
regs_below i k [] l = refl
regs_below i k (x ∷ xs) l =
    let rest = of_reg i (reg_drives (suc k) xs) in
    cond-false (eqb k i) (reg_drive k x ∷ rest) rest (ne_eqb k i (λ e. omega arith)) ∙ regs_below i (suc k) xs (omega arith)

-- what drives the j-th of these registers is its own block alone
pub regs_at : (k j i : ℕ) (xs : List Reg) (z : Reg)
    → k + j ≡ i → j < length xs → of_reg i (reg_drives k xs) ≡ reg_drive i (get_or xs j z) ∷ []
regs_at k j i [] z e l = absurd (omega arith)
regs_at k zero i (x ∷ xs) z e l =
    let rest = of_reg i (reg_drives (suc k) xs) in
    let s : k ≡ i = omega arith in
    let h = regs_below i (suc k) xs (omega arith) in
    cond-true (eqb k i) (reg_drive k x ∷ rest) rest (eq-eqb k i s) ∙ (λ q. reg_drive (s q) x ∷ h q)
regs_at k (suc j) i (x ∷ xs) z e l =
    let rest = of_reg i (reg_drives (suc k) xs) in
    cond-false (eqb k i) (reg_drive k x ∷ rest) rest (ne_eqb k i (λ q. omega arith)) ∙ regs_at (suc k) j i xs z (omega arith) (omega arith)

-- only what drives a register tells it
pub driven_kept : (i : ℕ) (x : Reg) (drives : List RegDrive) → driven i x drives ≡ driven i x (of_reg i drives)
driven_kept i x [] = refl
driven_kept i x (d ∷ ds) = go (eqb d.reg i) refl (λ y. driven_kept i y ds)
  where
    go : (b : Bool) → eqb d.reg i ≡ b → ((y : Reg) → driven i y ds ≡ driven i y (of_reg i ds))
        → driven i (cond b (given x d) x) ds ≡ driven i x (cond b (d ∷ of_reg i ds) (of_reg i ds))
    go true e h = h (given x d) ∙ ap (λ b. driven i (cond b (given x d) x) (of_reg i ds)) (sym e)
    go false e h = h x

-- ---- arrays

ports_written : (m : ℕ) (ps : List WritePort) → map (λ (w : ArrayWrite). w.port) (map (written_to m) ps) ≡ ps
ports_written m [] = refl
ports_written m (p ∷ ps) = ap (λ z. p ∷ z) (ports_written m ps)

writes_below : (i m : ℕ) (xs : List Array) → i < m → writes i (block_writes m xs) ≡ []
writes_below i m [] l = refl
writes_below i m (a ∷ xs) l = go a.writes (writes_below i (suc m) xs (omega arith))
  where
    go : (ps : List WritePort) → writes i (block_writes (suc m) xs) ≡ [] → writes i (onto_writes m ps (block_writes (suc m) xs)) ≡ []
    go [] h = h
    go (p ∷ ps) h =
        cond-false (eqb m i) (map (λ (w : ArrayWrite). w.port) (map (written_to m) (p ∷ ps)))
        (writes i (block_writes (suc m) xs)) (ne_eqb m i (λ e. omega arith))
        ∙ h

-- the writes of the j-th of these arrays are those of its block
pub writes_at : (m j i : ℕ) (xs : List Array) (z : Array)
    → m + j ≡ i → j < length xs → writes i (block_writes m xs) ≡ (get_or xs j z).writes
writes_at m j i [] z e l = absurd (omega arith)
writes_at m zero i (a ∷ xs) z e l = go a.writes (writes_below i (suc m) xs (omega arith))
  where
    go : (ps : List WritePort) → writes i (block_writes (suc m) xs) ≡ [] → writes i (onto_writes m ps (block_writes (suc m) xs)) ≡ ps
    go [] h = h
    go (p ∷ ps) h =
        let s : m ≡ i = omega arith in
        cond-true (eqb m i) (map (λ (w : ArrayWrite). w.port) (map (written_to m) (p ∷ ps))) (writes i (block_writes (suc m) xs)) (eq-eqb m i s)
        ∙ ports_written m (p ∷ ps)
writes_at m (suc j) i (a ∷ xs) z e l = go a.writes (writes_at (suc m) j i xs z (omega arith) (omega arith))
  where
    go : (ps : List WritePort) → writes i (block_writes (suc m) xs) ≡ (get_or xs j z).writes
        → writes i (onto_writes m ps (block_writes (suc m) xs)) ≡ (get_or xs j z).writes
    go [] h = h
    go (p ∷ ps) h =
        cond-false (eqb m i) (map (λ (w : ArrayWrite). w.port) (map (written_to m) (p ∷ ps)))
        (writes i (block_writes (suc m) xs)) (ne_eqb m i (λ q. omega arith))
        ∙ h
