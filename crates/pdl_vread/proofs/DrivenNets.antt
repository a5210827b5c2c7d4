-- Outputs and registers that `assign`s and blocks drive one after another.
use Rattle.std.proofs.Common.{◌≡◌, ℕ, zero, suc, ◌+◌, ◌<◌, ◌≤◌, ◌⊎◌, inl, inr, cond, eqb, List, [], ◌∷◌, ◌++◌, length, map, take, get_or, set, drop, min, replicate, append-nil, append_assoc, refl, sym, ap, ◌∙◌, arith, length-set}
use Rattle.std.proofs.lemmas.Bool.{cases_eq, eq-eqb, ne_eqb}
use Rattle.std.proofs.lemmas.List.{length-replicate, take_more, drop_more, drop_all, get_or-set_same, get_or-set_other, get_or-replicate, set_past, same_lists}
use Rattle.std.proofs.lemmas.List.FromFn.{fill_by_all, length-map-range_with_len, get_or-map-range_with_len}
use Rattle.pdl_net.specs.declared.Net.{Net}
use Rattle.pdl_net.specs.declared.Net.TheVariants.{Input}
use Rattle.pdl_net.specs.declared.Port.{Port}
use Rattle.pdl_net.specs.declared.Reg.{Reg}
use Rattle.pdl_vread_text.specs.declared.file.PortDecl.{PortDecl}
use Rattle.pdl_vread_text.specs.declared.file.RegDecl.{RegDecl}
use Rattle.pdl_vread_nets.specs.declared.wiring.OutputDrive.{OutputDrive}
use Rattle.pdl_vread_nets.specs.declared.wiring.RegDrive.{RegDrive}
use Rattle.pdl_vread.specs.Built.{driver, drivers, port, ports, undriven, given, driven, regs}

-- ---- outputs

driver_push : (i : ℕ) (x : Net) (ds : List OutputDrive) (d : OutputDrive)
    → driver i x (ds ++ d ∷ []) ≡ cond (eqb d.port i) d.net (driver i x ds)
driver_push i x [] d = refl
driver_push i x (o ∷ os) d = driver_push i (cond (eqb o.port i) o.net x) os d

-- there is a driving net for each of n ports
pub length_drivers : (n : ℕ) (ds : List OutputDrive) → length (drivers n ds) ≡ n
length_drivers n ds = length-map-range_with_len (λ i. driver i (Input 0) ds) 0 n

get_drivers : (n i : ℕ) (ds : List OutputDrive) (d : Net) → i < n → get_or (drivers n ds) i d ≡ driver i (Input 0) ds
get_drivers n i ds d h = get_or-map-range_with_len (λ k. driver k (Input 0) ds) 0 n i i d h (omega arith)

-- where no `assign` was read, each port has the first input as its net
pub no_drives : (n : ℕ) → replicate n (Input 0) ≡ drivers n []
no_drives n = fill_by_all (λ i. Input 0) (replicate n (Input 0)) n (Input 0) (length-replicate n (Input 0)) (λ k h. get_or-replicate n k (Input 0) (Input 0) h)

-- one `assign` more
driver_set : (n : ℕ) (ds : List OutputDrive) (d : OutputDrive) → set (drivers n ds) d.port d.net ≡ drivers n (ds ++ d ∷ [])
driver_set n ds d =
    fill_by_all (λ i. driver i (Input 0) (ds ++ d ∷ [])) (set (drivers n ds) d.port d.net) n (Input 0)
    (length-set (drivers n ds) d.port d.net ∙ length_drivers n ds) (λ k h. go k h (cases_eq d.port k))
  where
    go : (k : ℕ) → k < n → (d.port ≡ k) ⊎ (d.port ≡ k → ⊥) → get_or (set (drivers n ds) d.port d.net) k (Input 0) ≡ driver k (Input 0) (ds ++ d ∷ [])
    go k h (inl e) =
        let l = length_drivers n ds in
        let b : d.port < length (drivers n ds) = omega arith in
        ap (λ j. get_or (set (drivers n ds) d.port d.net) j (Input 0)) (sym e)
        ∙ (get_or-set_same (drivers n ds) d.port d.net (Input 0) b
        ∙ sym (driver_push k (Input 0) ds d ∙ ap (λ b. cond b d.net (driver k (Input 0) ds)) (eq-eqb d.port k e)))
    go k h (inr e) =
        get_or-set_other (drivers n ds) d.port k d.net (Input 0) (λ q. e (sym q))
        ∙ (get_drivers n k ds (Input 0) h
        ∙ sym (driver_push k (Input 0) ds d ∙ ap (λ b. cond b d.net (driver k (Input 0) ds)) (ne_eqb d.port k e)))

-- an `assign` more sets the net of its port
pub drivers_more : (n i : ℕ) (ds : List OutputDrive) (d : OutputDrive)
    → i < length ds → set (drivers n (take i ds)) (get_or ds i d).port (get_or ds i d).net ≡ drivers n (take (i + 1) ds)
drivers_more n i ds d h = driver_set n (take i ds) (get_or ds i d) ∙ ap (drivers n) (sym (take_more ds i d h))

-- an `assign` more changes no net, where its port is past the last
pub drivers_same : (n i : ℕ) (ds : List OutputDrive) (d : OutputDrive)
    → i < length ds → n ≤ (get_or ds i d).port → drivers n (take i ds) ≡ drivers n (take (i + 1) ds)
drivers_same n i ds d h k =
    let l = length_drivers n (take i ds) in
    sym (set_past (drivers n (take i ds)) (get_or ds i d).port (get_or ds i d).net (omega arith)) ∙ drivers_more n i ds d h

pub ruleset driving = (length_drivers, no_drives, drivers_more, drivers_same)

-- with the i-th port built, those that are built and those of the later declarations are still the whole list
pub port_push : (drives : List OutputDrive) (decls : List PortDecl) (nets : List Net) (i j : ℕ) (d : PortDecl) (x : Net)
    (p : Port) (done now whole : List Port)
    → nets ≡ drivers (length decls) drives → i < length decls → d ≡ get_or decls i d → x ≡ get_or nets i x → j ≡ i + 1
    → p ≡ port d x → now ≡ done ++ p ∷ [] → done ++ ports drives i (drop i decls) ≡ whole
    → now ++ ports drives j (drop j decls) ≡ whole
port_push drives decls nets i j d x p done now whole e h k q m n o w =
    let net : x ≡ driver i (Input 0) drives = q ∙ (ap (λ z. get_or z i x) e ∙ get_drivers (length decls) i drives x h) in
    let same : p ≡ port (get_or decls i d) (driver i (Input 0) drives) = n ∙ (ap (λ z. port z x) k ∙ ap (port (get_or decls i d)) net) in
    let s : j ≡ suc i = omega arith in
    let t : suc i ≡ i + 1 = omega arith in
    ap (λ z. z ++ ports drives j (drop j decls)) o
    ∙ (append_assoc done (p ∷ []) (ports drives j (drop j decls))
    ∙ (ap (λ z. done ++ p ∷ ports drives z (drop z decls)) s
    ∙ (ap (λ z. done ++ z ∷ ports drives (suc i) (drop (suc i) decls)) same
    ∙ (ap (λ z. done ++ port (get_or decls i d) (driver i (Input 0) drives) ∷ ports drives (suc i) (drop z decls)) t
    ∙ (ap (λ z. done ++ ports drives i z) (sym (drop_more decls i d h)) ∙ w)))))

-- the ports built up to the last one declared are all of them
pub ports_end : (drives : List OutputDrive) (decls : List PortDecl) (nets : List Net) (i : ℕ) (done whole : List Port)
    → nets ≡ drivers (length decls) drives → i ≡ min (length decls) (length nets)
    → done ++ ports drives i (drop i decls) ≡ whole → done ≡ whole
ports_end drives decls nets i done whole e m w =
    let l : length nets ≡ length decls = ap length e ∙ length_drivers (length decls) drives in
    sym (append-nil done) ∙ (ap (λ z. done ++ ports drives i z) (sym (drop_all i decls (omega arith))) ∙ w)

-- ---- registers

driven_push : (r : ℕ) (x : Reg) (ds : List RegDrive) (d : RegDrive)
    → driven r x (ds ++ d ∷ []) ≡ cond (eqb d.reg r) (given (driven r x ds) d) (driven r x ds)
driven_push r x [] d = refl
driven_push r x (e ∷ es) d = driven_push r (cond (eqb e.reg r) (given x e) x) es d

length_regs_from : (ds : List RegDrive) (r : ℕ) (decls : List RegDecl) → length (regs ds r decls) ≡ length decls
length_regs_from ds r [] = refl
length_regs_from ds r (c ∷ cs) = ap suc (length_regs_from ds (suc r) cs)

-- as many registers are built as are declared
pub length_regs : (ds : List RegDrive) (decls : List RegDecl) → length (regs ds 0 decls) ≡ length decls
length_regs ds decls = length_regs_from ds 0 decls

-- the i-th register, counted from the r-th on, is as the last block of it gives it
pub get_regs_from : (ds : List RegDrive) (r i j : ℕ) (decls : List RegDecl) (x : Reg) (z : RegDecl)
    → i < length decls → r + i ≡ j → get_or (regs ds r decls) i x ≡ driven j (undriven (get_or decls i z)) ds
get_regs_from ds r i j [] x z h e = absurd (omega arith)
get_regs_from ds r zero j (c ∷ cs) x z h e = let k : r ≡ j = omega arith in ap (λ q. driven q (undriven c) ds) k
get_regs_from ds r (suc i) j (c ∷ cs) x z h e = get_regs_from ds (suc r) i j cs x z (omega arith) (omega arith)

no_regs_from : (r : ℕ) (decls : List RegDecl) → map undriven decls ≡ regs [] r decls
no_regs_from r [] = refl
no_regs_from r (c ∷ cs) = ap (λ q. undriven c ∷ q) (no_regs_from (suc r) cs)

-- where no block was read, each register is as its declaration alone gives it
pub no_blocks : (decls : List RegDecl) → map undriven decls ≡ regs [] 0 decls
no_blocks decls = no_regs_from 0 decls

-- one block more
reg_set : (decls : List RegDecl) (ds : List RegDrive) (d : RegDrive) (y : Reg)
    → set (regs ds 0 decls) d.reg (given (get_or (regs ds 0 decls) d.reg y) d) ≡ regs (ds ++ d ∷ []) 0 decls
reg_set decls ds d y =
    let l = length_regs ds decls in
    same_lists _ _ (length-set (regs ds 0 decls) d.reg _ ∙ (l ∙ sym (length_regs (ds ++ d ∷ []) decls)))
    (λ k x h. let n = length-set (regs ds 0 decls) d.reg (given (get_or (regs ds 0 decls) d.reg y) d) in go k x (omega arith) (cases_eq d.reg k))
  where
    go : (k : ℕ) (x : Reg) → k < length decls → (d.reg ≡ k) ⊎ (d.reg ≡ k → ⊥)
        → get_or (set (regs ds 0 decls) d.reg (given (get_or (regs ds 0 decls) d.reg y) d)) k x ≡ get_or (regs (ds ++ d ∷ []) 0 decls) k x
    go k x h (inl e) =
        let z : RegDecl = record { line = 0; name = []; high = 0 } in
        let l = length_regs ds decls in
        let b : d.reg < length (regs ds 0 decls) = omega arith in
        let u = undriven (get_or decls k z) in
        ap (λ j. get_or (set (regs ds 0 decls) d.reg (given (get_or (regs ds 0 decls) d.reg y) d)) j x) (sym e)
        ∙ (get_or-set_same (regs ds 0 decls) d.reg (given (get_or (regs ds 0 decls) d.reg y) d) x b
        ∙ (ap (λ j. given (get_or (regs ds 0 decls) j y) d) e
        ∙ (ap (λ q. given q d) (get_regs_from ds 0 k k decls y z h (omega arith))
        ∙ sym
        (get_regs_from (ds ++ d ∷ []) 0 k k decls x z h (omega arith)
        ∙ (driven_push k u ds d ∙ ap (λ b. cond b (given (driven k u ds) d) (driven k u ds)) (eq-eqb d.reg k e))))))
    go k x h (inr e) =
        let z : RegDecl = record { line = 0; name = []; high = 0 } in
        let u = undriven (get_or decls k z) in
        get_or-set_other (regs ds 0 decls) d.reg k (given (get_or (regs ds 0 decls) d.reg y) d) x (λ q. e (sym q))
        ∙ (get_regs_from ds 0 k k decls x z h (omega arith)
        ∙ sym
        (get_regs_from (ds ++ d ∷ []) 0 k k decls x z h (omega arith)
        ∙ (driven_push k u ds d ∙ ap (λ b. cond b (given (driven k u ds) d) (driven k u ds)) (ne_eqb d.reg k e))))

-- a block more sets what its register takes
pub regs_more : (decls : List RegDecl) (i : ℕ) (ds : List RegDrive) (d : RegDrive) (y : Reg)
    → i < length ds
    → set (regs (take i ds) 0 decls) (get_or ds i d).reg (given (get_or (regs (take i ds) 0 decls) (get_or ds i d).reg y) (get_or ds i d))
    ≡ regs (take (i + 1) ds) 0 decls
regs_more decls i ds d y h = reg_set decls (take i ds) (get_or ds i d) y ∙ ap (λ x. regs x 0 decls) (sym (take_more ds i d h))

-- a block more changes no register, where its own is past the last
pub regs_same : (decls : List RegDecl) (i : ℕ) (ds : List RegDrive) (d : RegDrive)
    → i < length ds → length decls ≤ (get_or ds i d).reg → regs (take i ds) 0 decls ≡ regs (take (i + 1) ds) 0 decls
regs_same decls i ds d h k =
    let y : Reg = record { width = 0; reset = 0; next = Input 0 } in
    let l = length_regs (take i ds) decls in
    sym
    (set_past (regs (take i ds) 0 decls)
    (get_or ds i d).reg (given (get_or (regs (take i ds) 0 decls) (get_or ds i d).reg y) (get_or ds i d))
    (omega arith))
    ∙ regs_more decls i ds d y h

pub ruleset defining = (length_regs, no_blocks, regs_more, regs_same)
