-- The lines that declare arrays.
use Rattle.std.proofs.Common.{◌≡◌, ℕ, ◌+◌, ◌-◌, ◌<◌, ◌≤◌, true, List, [], ◌∷◌, ◌++◌, length, append_assoc, append-nil, flat_map, codes, decimal, Some, unwrap_or, refl, sym, ap, ◌∙◌, subst, arith}
use Rattle.std.proofs.lemmas.Bool.{cond-true}
use Rattle.pdl_net.specs.declared.Array.{Array}
use Rattle.pdl_net.specs.Well.{IsWidth}
use Rattle.pdl_vread_text.specs.declared.part.Part.TheVariants as part
use Rattle.pdl_vread_text.specs.declared.rule.VerilogRule.TheVariants as rule
use Rattle.pdl_vread_text.specs.declared.file.File.{File}
use Rattle.pdl_vread_text.specs.declared.file.ArrayDecl.{ArrayDecl}
use Rattle.pdl_vread_text.specs.declared.draft.Draft.{Draft}
use Rattle.pdl_vread_text.specs.Tokens.{piece_at, tokens_from}
use Rattle.pdl_vread_text.specs.Words.{number_of, is_name}
use Rattle.pdl_vread_text.specs.Grammar.{Row, AllFit, none, more, fields, chosen}
use Rattle.pdl_vread_text.specs.Drafts.{with_range, with_array}
use Rattle.pdl_vlog.specs.Layout.{range, array_line}
use Rattle.pdl_verilog.proofs.WordTokens.{token, word_token, space_first}
use Rattle.pdl_verilog.proofs.Names.{decimal_word, name_word, after_prefix}
use Rattle.pdl_verilog.proofs.RuleSteps.{CompletesFile, one_rule}
use Rattle.pdl_verilog.proofs.Declarations.{range_row, range_split, range_tokens, reg_start, number_fits, high_back}
use Rattle.pdl_word.specs.Words.{widest}

-- an array that can be written
pub record IsArrayText (a : Array) : Type 0 where
  pub width : IsWidth a.width
  pub named : is_name a.name ≡ true
  pub low : 1 ≤ a.depth
  pub high : a.depth ≤ 131072

-- what the line of an array declares
abbrev pub array_decl : ℕ → Array → ArrayDecl
array_decl line a = record { line = line; name = codes "a_" ++ a.name; high = a.width - 1; last = a.depth - 1 }

-- a file with an array more
abbrev pub add_array : File → ArrayDecl → File
add_array f g = record f { arrays = f.arrays ++ g ∷ [] }

depth_first : (x : List ℕ) (line : ℕ)
    → tokens_from 0 line (codes " [0:" ++ x) ≡ token (codes "[") line ∷ token (codes "0") line ∷ token (codes ":") line ∷ tokens_from 0 line x
unfolding piece_at
depth_first x line = refl

square_last : (x : List ℕ) (line : ℕ)
    → tokens_from 0 line (codes "];\n" ++ x) ≡ token (codes "]") line ∷ token (codes ";") line ∷ tokens_from 0 (line + 1) x
unfolding piece_at
square_last x line = refl

module _ (line : ℕ) (a : Array) (rest : List ℕ) (before f : File) (h : IsArrayText a) where
  abbrev name : List ℕ
  name = codes "a_" ++ a.name

  abbrev last : List ℕ
  last = codes "];\n" ++ rest

  -- what stands after the range
  abbrev middle : List ℕ
  middle = codes " " ++ (name ++ (codes " [0:" ++ (decimal (a.depth - 1) ++ last)))

  abbrev text : List ℕ
  text = codes "reg " ++ (range a.width ++ middle)

  text_is : array_line a ++ rest ≡ text
  text_is =
      let flat : array_line a ++ rest ≡ codes "reg " ++ (codes "[" ++ (decimal (a.width - 1) ++ (codes ":0]" ++ middle))) = simp append_assoc in
      flat ∙ ap (λ z. codes "reg " ++ z) (sym (range_split a.width middle))

  abbrev row : Row
  row =
      token (codes "[") line ∷ token (codes "0") line ∷ token (codes ":") line ∷ token (decimal (a.depth - 1)) line
      ∷ token (codes "]") line ∷ token (codes ";") line ∷ []

  range_lexed : tokens_from 0 line text ≡ token (codes "reg") line ∷ range_row line a.width [] ++ tokens_from 0 line middle
  range_lexed = let most : a.width ≤ widest = h.width.high in
      reg_start (range a.width ++ middle) line ∙ ap (λ z. token (codes "reg") line ∷ z) (range_tokens a.width line middle most)

  name_lexed : tokens_from 0 line middle ≡ token name line ∷ row ++ tokens_from 0 (line + 1) rest
  name_lexed =
      let depth = decimal (a.depth - 1) in
      let high : a.depth ≤ 131072 = h.high in
      let t0 = token name line in
      space_first (name ++ (codes " [0:" ++ (depth ++ last))) line
      ∙ (word_token name (codes " [0:" ++ (depth ++ last)) line (after_prefix (codes "a_") a.name refl (name_word a.name h.named)) refl
      ∙ (ap (λ z. t0 ∷ z) (depth_first (depth ++ last) line)
      ∙ (ap (λ z. t0 ∷ token (codes "[") line ∷ token (codes "0") line ∷ token (codes ":") line ∷ z)
      (word_token depth last line (decimal_word (a.depth - 1) (omega arith)) refl)
      ∙ ap (λ z. t0 ∷ token (codes "[") line ∷ token (codes "0") line ∷ token (codes ":") line ∷ token depth line ∷ z) (square_last rest line))))

  small_high : a.width - 1 < 1000000
  small_high = let most : a.width ≤ widest = h.width.high in omega arith

  small_last : a.depth - 1 < 1000000
  small_last = let most : a.depth ≤ 131072 = h.high in omega arith

  range_fits : AllFit (fields rule.RegRange) (token (codes "reg") line ∷ range_row line a.width [])
  range_fits = more refl (more refl (more (number_fits (a.width - 1) small_high) (more refl (more refl (more refl none)))))

  name_fits : AllFit (fields rule.ArrayDeclared) (token name line ∷ row)
  name_fits = more h.named (more refl (more refl (more refl (more (number_fits (a.depth - 1) small_last) (more refl (more refl none))))))

  abbrev ranged : Draft → Draft
  ranged d = with_range d (token (codes "reg") line ∷ range_row line a.width [])

  added : (d : Draft) → d.file ≡ before → (with_array (ranged d) (token name line ∷ row)).file ≡ add_array before (array_decl line a)
  added d e =
      let F : File → ℕ → ℕ → File = λ g n m. add_array g (record { line = line; name = name; high = n; last = m }) in
      let n = unwrap_or (number_of (decimal (a.width - 1))) 0 in
      let m = unwrap_or (number_of (decimal (a.depth - 1))) 0 in
      ap (λ (g : File). F g n m) e
      ∙ (ap (λ k. F before k m) (high_back (a.width - 1) small_high) ∙ ap (λ k. F before (a.width - 1) k) (high_back (a.depth - 1) small_last))

  first_chosen : chosen part.Regs (codes "reg") ≡ Some rule.RegRange
  unfolding chosen
  first_chosen = refl

  later_chosen : chosen part.Arrays (codes "reg") ≡ Some rule.ArrayRange
  unfolding chosen
  later_chosen = refl

  declared_chosen : chosen part.Declared name ≡ Some rule.ArrayDeclared
  unfolding chosen
  declared_chosen = cond-true _ _ _ h.named

  named_chosen : chosen part.LaterArray name ≡ Some rule.ArrayDeclared
  unfolding chosen
  named_chosen = cond-true _ _ _ h.named

  -- the line of the first array, after the registers, completes the file, where what follows completes it with that array
  pub first_array : CompletesFile part.Arrays (line + 1) rest (add_array before (array_decl line a)) f
      → CompletesFile part.Regs line (array_line a ++ rest) before f
  first_array k = subst (λ z. CompletesFile part.Regs line z before f) (sym text_is) (λ d e v.
      one_rule part.Regs rule.RegRange line line text middle (token (codes "reg") line) (range_row line a.width []) d f first_chosen range_fits range_lexed
      (one_rule part.Declared rule.ArrayDeclared line (line + 1) middle rest (token name line) row
      (ranged d) f declared_chosen name_fits name_lexed (k _ (added d e) v)))

  -- the line of an array after another completes the file, where what follows completes it with that array
  pub later_array : CompletesFile part.Arrays (line + 1) rest (add_array before (array_decl line a)) f
      → CompletesFile part.Arrays line (array_line a ++ rest) before f
  later_array k = subst (λ z. CompletesFile part.Arrays line z before f) (sym text_is) (λ d e v.
      one_rule part.Arrays rule.ArrayRange line line text middle (token (codes "reg") line) (range_row line a.width []) d f later_chosen range_fits range_lexed
      (one_rule part.LaterArray rule.ArrayDeclared line (line + 1) middle rest (token name line) row
      (ranged d) f named_chosen name_fits name_lexed (k _ (added d e) v)))

-- ---- all arrays

-- arrays that can be written
abbrev pub AreArrayTexts : List Array → Type 0
AreArrayTexts [] = Unit {0}
AreArrayTexts (a ∷ rest) = IsArrayText a × AreArrayTexts rest

-- what the lines of arrays declare, from a line on
abbrev pub array_decls : ℕ → List Array → List ArrayDecl
array_decls line [] = []
array_decls line (a ∷ xs) = array_decl line a ∷ array_decls (line + 1) xs

-- a file with more arrays
abbrev pub add_arrays : File → List ArrayDecl → File
add_arrays f gs = record f { arrays = f.arrays ++ gs }

-- the lines of arrays after others complete the file that what is left completes with them
pub later_arrays : (line : ℕ) (xs : List Array) (rest : List ℕ) (before f : File) → AreArrayTexts xs
    → CompletesFile part.Arrays (line + length xs) rest (add_arrays before (array_decls line xs)) f
    → CompletesFile part.Arrays line (flat_map array_line xs ++ rest) before f
later_arrays line [] rest before f h k =
    let n : line + 0 ≡ line = omega arith in
    let same : add_arrays before [] ≡ before = ap (λ gs. record before { arrays = gs }) (append-nil before.arrays) in
    subst (λ z. CompletesFile part.Arrays z rest before f) n (subst (λ z. CompletesFile part.Arrays (line + 0) rest z f) same k)
later_arrays line (a ∷ xs) rest before f h k =
    let split : flat_map array_line (a ∷ xs) ++ rest ≡ array_line a ++ (flat_map array_line xs ++ rest) =
    append_assoc (array_line a) (flat_map array_line xs) rest in
    let n : line + length (a ∷ xs) ≡ (line + 1) + length xs = omega arith in
    let one = add_array before (array_decl line a) in
    let same : add_arrays before (array_decls line (a ∷ xs)) ≡ add_arrays one (array_decls (line + 1) xs) =
    ap (λ gs. record before { arrays = gs }) (sym (append_assoc before.arrays (array_decl line a ∷ []) (array_decls (line + 1) xs))) in
    let moved : CompletesFile part.Arrays ((line + 1) + length xs) rest (add_arrays one (array_decls (line + 1) xs)) f =
    subst (λ z. CompletesFile part.Arrays z rest (add_arrays one (array_decls (line + 1) xs)) f) n
    (subst (λ z. CompletesFile part.Arrays (line + length (a ∷ xs)) rest z f) same k) in
    subst (λ z. CompletesFile part.Arrays line z before f) (sym split)
    (later_array line a (flat_map array_line xs ++ rest) before f h.0 (later_arrays (line + 1) xs rest one f h.1 moved))
