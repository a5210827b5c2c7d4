-- One write of an advisory memory, as the program makes it.
use Rattle.std.proofs.Common.{◌≡◌, sym, ap, ◌∙◌, ◌<◌, ◌≤◌, List, length, get_or, set}
use Rattle.std.proofs.lemmas.List.{get_or_default, set_past}
use Rattle.pdl_semantics.specs.Machine.{Advised}
use Rattle.pdl_machine_pending.specs.Memory.{Memory}
use Rattle.pdl_machine_run.specs.StageDeeds.{no_memory, memory_at}
use Rattle.pdl_machine_run.specs.Advice.{with_word_at, after_write}

-- the memories with one whose word was set
pub word_written : (xs : List Memory) (w : Advised) (x y : Memory)
    → w.mem < length xs → x ≡ get_or xs w.mem x → y ≡ with_word_at w.address w.value x → set xs w.mem y ≡ after_write w xs
word_written xs w x y less is e =
    ap (set xs w.mem) (e ∙ ap (with_word_at w.address w.value) (is ∙ get_or_default xs w.mem x no_memory less))

-- where there is no memory of the number, they stay as they are
pub nothing_written : (xs : List Memory) (w : Advised) → length xs ≤ w.mem → xs ≡ after_write w xs
nothing_written xs w past = sym (set_past xs w.mem (with_word_at w.address w.value (memory_at xs w.mem)) past)
