-- What is asked of each of a list by those before it, one after another.
use Rattle.std.proofs.Common.{◌≡◌, ℕ, ◌+◌, ◌<◌, ◌≤◌, Bool, true, false, cond, List, [], ◌∷◌, ◌++◌, length, take, drop, get_or, Option, Some, sym, ap, ◌∙◌, map, ◌&&◌, ◌||◌, ◌==◌, arith}
use Rattle.std.proofs.lemmas.List.{drop_more, take_more, length-take-le, map-append}
use Rattle.pdl_vread_rules.specs.RuleQuestions.{Asked, first_wrong}
use Rattle.pdl_vread_text.specs.declared.file.PortDecl.{PortDecl}
use Rattle.pdl_vread_text.specs.declared.file.RegDecl.{RegDecl}
use Rattle.pdl_vread_nets.specs.declared.wiring.OutputDrive.{OutputDrive}
use Rattle.pdl_vread_nets.specs.declared.wiring.RegDrive.{RegDrive}
use Rattle.pdl_vread_rules.specs.Once.{in_turn, is_new, output_drives, reg_drives, port_once, reg_once}

module _ {A : Type 0} (ask : List A → A → Asked) where
  one_turn : (xs : List A) (i : ℕ) (x : A) → i < length xs
      → in_turn ask (take i xs) (drop i xs) ≡ ask (take i xs) (get_or xs i x) ∷ in_turn ask (take (i + 1) xs) (drop (i + 1) xs)
  one_turn xs i x h =
      ap (in_turn ask (take i xs)) (drop_more xs i x h) ∙ ap (λ z. ask (take i xs) (get_or xs i x) ∷ in_turn ask z (drop (i + 1) xs)) (sym (take_more xs i x h))

  -- where the i-th element is right by those before it, the first wrong one is looked for from the next on
  pub turn_more : (xs : List A) (i j : ℕ) (x : A) (whole : Option ℕ) → i < length xs → j ≡ i + 1 → (ask (take i xs) (get_or xs i x)).right ≡ true
      → first_wrong (in_turn ask (take i xs) (drop i xs)) ≡ whole → first_wrong (in_turn ask (take j xs) (drop j xs)) ≡ whole
  turn_more xs i j x whole h m r w =
      let a = ask (take i xs) (get_or xs i x) in
      let rest = in_turn ask (take (i + 1) xs) (drop (i + 1) xs) in
      ap (λ n. first_wrong (in_turn ask (take n xs) (drop n xs))) m
      ∙ (sym (ap (λ b. cond b (first_wrong rest) (Some a.line)) r) ∙ (ap first_wrong (sym (one_turn xs i x h)) ∙ w))

  -- where the i-th element is wrong by those before it, its line is that of the first wrong one
  pub turn_stop : (xs : List A) (i line : ℕ) (x : A) (whole : Option ℕ) → i < length xs
      → (ask (take i xs) (get_or xs i x)).right ≡ false → line ≡ (ask (take i xs) (get_or xs i x)).line
      → first_wrong (in_turn ask (take i xs) (drop i xs)) ≡ whole → whole ≡ Some line
  turn_stop xs i line x whole h r m w =
      let a = ask (take i xs) (get_or xs i x) in
      let rest = in_turn ask (take (i + 1) xs) (drop (i + 1) xs) in
      sym w ∙ (ap first_wrong (one_turn xs i x h) ∙ (ap (λ b. cond b (first_wrong rest) (Some a.line)) r ∙ ap Some (sym m)))

-- the names of the first declarations and of the next one
pub names_more : {A : Type 0} (name : A → List ℕ) (xs : List A) (i j : ℕ) (x : A)
    → i < length xs → j ≡ i + 1 → x ≡ get_or xs i x → map name (take i xs) ++ name x ∷ [] ≡ map name (take j xs)
names_more name xs i j x h m e =
    ap (λ z. map name (take i xs) ++ name z ∷ []) e
    ∙ sym (ap (λ n. map name (take n xs)) m ∙ (ap (map name) (take_more xs i x h) ∙ map-append name (take i xs) (get_or xs i x ∷ [])))

-- what is asked of a port, where its drives are counted
pub port_right : (drives : List OutputDrive) (ps : List PortDecl) (i count : ℕ) (p : PortDecl) (b : Bool)
    → i < length ps → p ≡ get_or ps i p → count ≡ output_drives drives i
    → b ≡ (is_new (map (λ q. q.name) (take i ps)) p.name && (p.input || count == 1))
    → (port_once drives (take i ps) (get_or ps i p)).right ≡ b
port_right drives ps i count p b h e k r =
    let names = map (λ (q : PortDecl). q.name) (take i ps) in
    let l : length (take i ps) ≡ i = length-take-le i ps (omega arith) in
    sym (r
    ∙ (ap (λ n. is_new names p.name && (p.input || n == 1)) (k ∙ ap (output_drives drives) (sym l))
    ∙ ap (λ (z : PortDecl). is_new names z.name && (z.input || output_drives drives (length (take i ps)) == 1)) e))

-- what is asked of a register, where its drives are counted
pub reg_right : (drives : List RegDrive) (ds : List RegDecl) (i count : ℕ) (d : RegDecl) (b : Bool)
    → i < length ds → d ≡ get_or ds i d → count ≡ reg_drives drives i
    → b ≡ (is_new (map (λ q. q.name) (take i ds)) d.name && count == 1)
    → (reg_once drives (take i ds) (get_or ds i d)).right ≡ b
reg_right drives ds i count d b h e k r =
    let names = map (λ (q : RegDecl). q.name) (take i ds) in
    let l : length (take i ds) ≡ i = length-take-le i ds (omega arith) in
    sym (r
    ∙ (ap (λ n. is_new names d.name && n == 1) (k ∙ ap (reg_drives drives) (sym l))
    ∙ ap (λ (z : RegDecl). is_new names z.name && reg_drives drives (length (take i ds)) == 1) e))
