-- Words of arrays, read and written.
use Rattle.std.proofs.Common.{◌≡◌, ℕ, ◌<◌, List, [], length, get_or, set, Vec, Global, sym, ap, ◌∙◌}
use Rattle.std.proofs.lemmas.List.{get_or-map, length-map, map-set}
use Rattle.pdl_netrun.specs.Steps.{array_words}
use Rattle.pdl_word.proofs.Lists.{items_written}

-- the words of the m-th array are the items of its list
pub word_list : (arrays : List (Vec ℕ Global)) (m : ℕ) (v : Vec ℕ Global)
    → m < length arrays → v ≡ get_or arrays m v → get_or (array_words arrays) m [] ≡ v.items
word_list arrays m v h e = get_or-map (λ (w : Vec ℕ Global). w.items) arrays m v [] h ∙ ap (λ (w : Vec ℕ Global). w.items) (sym e)

-- there are as many lists of words as arrays
pub count_lists : (arrays : List (Vec ℕ Global)) → length (array_words arrays) ≡ length arrays
count_lists arrays = simp length-map

pub ruleset words = (word_list, count_lists)

-- the lists after one array is written
pub lists_set : (arrays : List (Vec ℕ Global)) (m : ℕ) (v : Vec ℕ Global)
    → array_words (set arrays m v) ≡ set (array_words arrays) m v.items
lists_set arrays m v = simp map-set

pub ruleset written = (word_list, count_lists, items_written, lists_set)
