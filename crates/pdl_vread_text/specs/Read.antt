-- What the parts of the reader ensure.
use Rattle.std.specs.Prelude.{◌≡◌, ◌≢◌, ℕ, true, false, List, [], ◌∷◌, ◌++◌, flat_map, Option, Some, None, Result, Ok, Err}
use Rattle.pdl_vread_text.specs.declared.field.Field.{Field}
use Rattle.pdl_vread_text.specs.declared.part.Part.{Part}
use Rattle.pdl_vread_text.specs.declared.part.Part.TheVariants.{Start, Finished}
use Rattle.pdl_vread_text.specs.declared.rule.VerilogRule.{VerilogRule}
use Rattle.pdl_vread_text.specs.declared.draft.Draft.{Draft}
use Rattle.pdl_vread_text.specs.declared.token.VerilogToken as r
use Rattle.pdl_vread_text.specs.declared.read.ReaderStop.{ReaderStop}
use Rattle.pdl_vread_text.specs.declared.read.ReaderStop.TheVariants.{Misplaced, NoMemory}
use Rattle.pdl_vread_text.specs.Tokens.{Token}
use Rattle.pdl_vread_text.specs.Cursor.{token_view}
use Rattle.pdl_vread_text.specs.Grammar.{Row, Taken, AllFit, fits, fields, chosen, next}
use Rattle.pdl_vread_text.specs.Drafts.{no_draft, all_taken, taken}
use Rattle.pdl_vread_text.specs.Text as text
use Rattle.pdl_vread_text.specs.Text.{IsFile, IsOutOfPlace}
use Rattle.pdl_vread_text.specs.declared.file.File.{File}
use Rattle.pdl_vread_text.specs.declared.read.VerilogError.{VerilogError}
use Rattle.pdl_vread_text.specs.declared.read.VerilogError.TheVariants as OutOfPlace

-- the stop where memory ran out
abbrev pub no_memory : ReaderStop
no_memory = NoMemory

-- the line of the first of the tokens, or the last line where none is left
abbrev pub line_of : Row → ℕ → ℕ
line_of ts last = text.line_of ts last

-- the rule that comes at a part
abbrev pub chosen_at : Part → Row → Option VerilogRule
chosen_at part [] = None
chosen_at part (t ∷ ts) = chosen part t.text

-- the first of the tokens isn't what is asked, or there is none
abbrev pub IsUnfit : Field → Row → Type 0
IsUnfit g [] = Unit {0}
IsUnfit g (t ∷ ts) = fits g t.text ≡ false

-- the first of the tokens is answered where it is what is asked
abbrev pub IsFitting : Row → Field → Option r.VerilogToken → Type 0
IsFitting [] g (Some t) = ⊥
IsFitting (u ∷ us) g (Some t) = (token_view t ≡ u) × (fits g u.text ≡ true)
IsFitting ts g None = IsUnfit g ts

-- the tokens begin with some that are what is asked
pub record Found (gs : List Field) (old found new : Row) : Type 0 where
  pub fit : AllFit gs found
  pub split : old ≡ found ++ new

-- the tokens begin with some that are what is asked first, and the next isn't what is asked then
pub record Stopped (gs : List Field) (old found new : Row) : Type 0 where
  pub done : List Field
  pub field : Field
  pub later : List Field
  pub parts : gs ≡ done ++ field ∷ later
  pub fit : AllFit done found
  pub split : old ≡ found ++ new
  pub unfit : IsUnfit field new

-- what taking the tokens of a rule answers
abbrev pub Sentence : List Field → Row → Row → Row → Result (Unit {0}) ReaderStop → Type 0
Sentence gs old found new (Ok _) = Found gs old found new
Sentence gs old found new (Err Misplaced) = Stopped gs old found new
Sentence gs old found new (Err NoMemory) = Unit {0}

-- a rule with its tokens comes at a part
pub record Comes (part : Part) (t : Taken) : Type 0 where
  pub token : Token
  pub more : Row
  pub found : t.found ≡ token ∷ more
  pub chosen : chosen part token.text ≡ Some t.rule
  pub fit : AllFit (fields t.rule) t.found

-- these rules lead from the beginning to a part
pub data Leads : List Taken → Part → Type 0 where
  here : Leads [] Start
  further : {done : List Taken} {part : Part} (t : Taken) → Leads done part → Comes part t → Leads (done ++ t ∷ []) (next t.rule)

-- the tokens of rules
abbrev pub all_found : List Taken → Row
all_found done = flat_map (λ t. t.found) done

-- the tokens after a part begin no rule that comes there, or begin one, up to a token that isn't what is asked then
pub data IsStuck : Part → Row → Row → Type 0 where
  nothing : {part : Part} {left : Row} → part ≢ Finished → chosen_at part left ≡ None → IsStuck part [] left
  inside : {part : Part} {rule : VerilogRule} {old front left : Row} → chosen_at part old ≡ Some rule
      → Stopped (fields rule) old front left → IsStuck part front left

-- the rule that comes at a part was taken
pub record IsTaken (part : Part) (old new : Row) (d e : Draft) (after : Part) : Type 0 where
  pub rule : VerilogRule
  pub row : Row
  pub comes : chosen_at part old ≡ Some rule
  pub front : Found (fields rule) old row new
  pub draft : e ≡ taken d rule row
  pub goes_on : after ≡ next rule

-- at a part that isn't the end the tokens are stuck
pub record IsOff (part : Part) (old new : Row) : Type 0 where
  pub front : Row
  pub split : old ≡ front ++ new
  pub stuck : part ≢ Finished → IsStuck part front new

-- what taking the rule that comes at a part answers
abbrev pub TakesRule : Part → Row → Row → Draft → Draft → Result Part ReaderStop → Type 0
TakesRule part old new d e (Ok after) = IsTaken part old new d e after
TakesRule part old new d e (Err Misplaced) = IsOff part old new
TakesRule part old new d e (Err NoMemory) = Unit {0}

-- rules up to the end of a file were taken
pub record AreTaken (old new : Row) (d : Draft) : Type 0 where
  pub rules : List Taken
  pub leads : Leads rules Finished
  pub split : old ≡ all_found rules ++ new
  pub draft : d ≡ all_taken no_draft rules

-- rules were taken up to a token out of place
pub record AreStopped (old new : Row) : Type 0 where
  pub rules : List Taken
  pub part : Part
  pub leads : Leads rules part
  pub front : Row
  pub split : old ≡ all_found rules ++ (front ++ new)
  pub stuck : IsStuck part front new

-- what taking rules up to the end of a file answers
abbrev pub TakesRules : Row → Row → Draft → Result (Unit {0}) ReaderStop → Type 0
TakesRules old new d (Ok _) = AreTaken old new d
TakesRules old new d (Err Misplaced) = AreStopped old new
TakesRules old new d (Err NoMemory) = Unit {0}

-- what is drafted is what the text declares, and a refusal is at the first token out of place
abbrev pub JudgesDraft : List ℕ → Draft → Result (Unit {0}) VerilogError → Type 0
JudgesDraft bytes d (Ok _) = IsFile bytes d.file
JudgesDraft bytes d (Err OutOfPlace.NoMemory) = Unit {0}
JudgesDraft bytes d (Err (OutOfPlace.Misplaced line)) = IsOutOfPlace bytes line

-- what is read is what the text declares, and a refusal is at the first token out of place
abbrev pub Judges : List ℕ → Result File VerilogError → Type 0
Judges bytes (Ok f) = IsFile bytes f
Judges bytes (Err OutOfPlace.NoMemory) = Unit {0}
Judges bytes (Err (OutOfPlace.Misplaced line)) = IsOutOfPlace bytes line
