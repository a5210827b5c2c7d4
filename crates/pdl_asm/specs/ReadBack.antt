-- What the image of a text gives a memory that reads it.
use Rattle.std.specs.Prelude.{◌≡◌, ℕ, pos, ◌≤◌, ◌<◌, List, [], ◌∷◌, map, Option, None, unwrap_or, Ok}
use Rattle.std.specs.List.{range_with_len}
use Rattle.pdl_kit.specs.declared.mem_info.MemInfo.{MemInfo}
use Rattle.pdl_image.specs.Images.{image}
use Rattle.pdl_image.specs.Lines.{lines}
use Rattle.pdl_asm_table.specs.Tables.{TableValue}
use Rattle.pdl_asm.specs.Assembly.{Placed, labels_of, lines_from, written_word}

-- the lines of a text with their places
abbrev pub lines_in : TableValue → List ℕ → List Placed
lines_in t text = lines_from t (pos 0) (lines text)

-- the word that a text writes at an address, if it writes one
unfoldable pub word_in : TableValue → List ℕ → ℕ → Option ℕ
word_in t text address = written_word t (labels_of (lines_in t text)) (lines_in t text) address

-- the words of the first addresses: those that a text writes, and 0 where it writes none
abbrev pub words_in : TableValue → List ℕ → ℕ → List ℕ
words_in t text count = map (λ address. unwrap_or (word_in t text address) 0) (range_with_len 0 count)

-- a memory takes the words of a text: it has the table's name, words of the table's width or wider, and each address at which one is written
pub record Takes (t : TableValue) (text : List ℕ) (m : MemInfo) : Type 0 where
  pub name : m.name ≡ t.mem
  pub width : t.word ≤ m.width
  pub depth : m.depth ≤ 65536
  pub room : (address : ℕ) → m.depth ≤ address → address < 65536 → word_in t text address ≡ None

-- read as an image for one memory that takes them, bytes give it the words of a text, and 0 at all other addresses
abbrev pub IsReadBack : TableValue → List ℕ → List ℕ → Type 0
IsReadBack t text bytes = (m : MemInfo) → Takes t text m → image (m ∷ []) bytes ≡ Ok (words_in t text m.depth ∷ [])
