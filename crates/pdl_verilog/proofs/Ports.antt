-- The names of a pipe's ports are those that a text may have.
use Rattle.std.proofs.Common.{◌≡◌, ℕ, zero, suc, ◌+◌, ◌<◌, ◌≤◌, Bool, true, false, ◌||◌, if◌then◌else◌, List, [], ◌∷◌, ◌++◌, length, get_or, codes, decimal, bytes_eq, refl, arith}
use Rattle.std.specs.List.{list_all, range_with_len}
use Rattle.std.proofs.lemmas.Bool.{and_from, or_left, or_right, le-leb}
use Rattle.std.proofs.lemmas.Fmt.{length-decimal-le}
use Rattle.pdl_net.specs.Pipe.{Head, PortMem, input, output, reply_ports, stage_ports, first_ports, second_ports, commit_ports, request_ports, pipe_ports}
use Rattle.pdl_vread_text.specs.Tokens.{is_word}
use Rattle.pdl_vread_text.specs.Words.{is_name, is_named, is_counted, is_stage_port, is_input, is_commit_output, is_memory_output, is_port, are_decimals}
use Rattle.pdl_verilog.proofs.Numbers.{decimals_are}
use Rattle.pdl_verilog.proofs.WordTokens.{IsWordText}
use Rattle.pdl_verilog.proofs.Names.{IsOperandText, decimal_word, name_word, after_prefix, p_text, pd_text}
use Rattle.pdl_word.proofs.Bools.{untrue}
use Rattle.pdl_word.specs.Each.{Each}
use Rattle.pdl_word.proofs.Each.{each_append, each_weaker, each_flat}

-- ---- each element

-- what holds of each element of a list holds of the k-th, where there are more than k
pub all_from_each : {A : Type 0} (P : A → Type 0) (xs : List A) → Each P xs → (k : ℕ) (d : A) → k < length xs → P (get_or xs k d)
all_from_each P [] h k d l = absurd (omega arith)
all_from_each P (x ∷ xs) h zero d l = h.0
all_from_each P (x ∷ xs) h (suc k) d l = all_from_each P xs h.1 k d (omega arith)

-- ---- kinds of ports

memory_output : (t : List ℕ) → is_memory_output t ≡ true → is_port t ≡ true
unfolding is_port
memory_output t h =
    or_right (bytes_eq t (codes "ended") || bytes_eq t (codes "squash") || is_stage_port (codes "v_") t || is_stage_port (codes "g_") t || is_input t)
    (is_memory_output t) h

input_port : (t : List ℕ) → is_input t ≡ true → is_port t ≡ true
unfolding is_port
input_port t h =
    or_left _ (is_memory_output t)
    (or_right (bytes_eq t (codes "ended") || bytes_eq t (codes "squash") || is_stage_port (codes "v_") t || is_stage_port (codes "g_") t) (is_input t) h)

moves_port : (t : List ℕ) → is_stage_port (codes "g_") t ≡ true → is_port t ≡ true
unfolding is_port
moves_port t h =
    or_left _ (is_memory_output t)
    (or_left _ (is_input t)
    (or_right (bytes_eq t (codes "ended") || bytes_eq t (codes "squash") || is_stage_port (codes "v_") t) (is_stage_port (codes "g_") t) h))

valid_port : (t : List ℕ) → is_stage_port (codes "v_") t ≡ true → is_port t ≡ true
unfolding is_port
valid_port t h =
    or_left _ (is_memory_output t)
    (or_left _ (is_input t)
    (or_left _ (is_stage_port (codes "g_") t) (or_right (bytes_eq t (codes "ended") || bytes_eq t (codes "squash")) (is_stage_port (codes "v_") t) h)))

ended_port : is_port (codes "ended") ≡ true
unfolding is_port
ended_port = refl

squash_port : is_port (codes "squash") ≡ true
unfolding is_port
squash_port = refl

commit_port : (t : List ℕ) → is_commit_output t ≡ true → is_memory_output t ≡ true
commit_port t h = or_left _ (is_named (codes "qa_") t) (or_left (is_commit_output t) (is_named (codes "q_") t) h)

c_port : (t : List ℕ) → is_named (codes "c_") t ≡ true → is_commit_output t ≡ true
c_port t h = or_left _ _ (or_left _ _ (or_left _ _ (or_left _ _ (or_left (is_named (codes "c_") t) (is_named (codes "ca_") t) h))))

ca_port : (t : List ℕ) → is_named (codes "ca_") t ≡ true → is_commit_output t ≡ true
ca_port t h = or_left _ _ (or_left _ _ (or_left _ _ (or_left _ _ (or_right (is_named (codes "c_") t) (is_named (codes "ca_") t) h))))

cd_port : (t : List ℕ) → is_named (codes "cd_") t ≡ true → is_commit_output t ≡ true
cd_port t h = or_left _ _ (or_left _ _ (or_left _ _ (or_right _ (is_named (codes "cd_") t) h)))

c2_port : (t : List ℕ) → is_named (codes "c2_") t ≡ true → is_commit_output t ≡ true
c2_port t h = or_left _ _ (or_left _ _ (or_right _ (is_named (codes "c2_") t) h))

ca2_port : (t : List ℕ) → is_named (codes "ca2_") t ≡ true → is_commit_output t ≡ true
ca2_port t h = or_left _ _ (or_right _ (is_named (codes "ca2_") t) h)

cd2_port : (t : List ℕ) → is_named (codes "cd2_") t ≡ true → is_commit_output t ≡ true
cd2_port t h = or_right _ (is_named (codes "cd2_") t) h

q_port : (t : List ℕ) → is_named (codes "q_") t ≡ true → is_memory_output t ≡ true
q_port t h = or_left _ (is_named (codes "qa_") t) (or_right (is_commit_output t) (is_named (codes "q_") t) h)

qa_port : (t : List ℕ) → is_named (codes "qa_") t ≡ true → is_memory_output t ≡ true
qa_port t h = or_right (is_commit_output t || is_named (codes "q_") t) (is_named (codes "qa_") t) h

-- ---- the ports of a pipe

-- a port that a text may have; an input is an operand too
pub record IsHeadText (h : Head) : Type 0 where
  pub word : IsWordText h.name
  pub named : is_port h.name ≡ true
  pub operand : h.input ≡ true → IsOperandText h.name

-- a memory's name is a name of PDL
abbrev pub IsMemName : PortMem → Type 0
IsMemName m = is_name m.name ≡ true

output_text : (prefix x : List ℕ) (w : ℕ) → IsWordText (prefix ++ x)
    → is_memory_output (prefix ++ x) ≡ true → IsHeadText (output (prefix ++ x) w)
output_text prefix x w o h = record { word = o; named = memory_output (prefix ++ x) h; operand = λ e. untrue e }

reply_texts : (m : PortMem) → IsMemName m → Each IsHeadText (reply_ports m)
reply_texts m h =
    let x = m.name in
    let p = codes "p_" ++ x in
    let d = codes "pd_" ++ x in
    let one : IsHeadText (input p 1) = record {
      word = (p_text x h).word;
      named = input_port p (or_left (is_named (codes "p_") p) (is_named (codes "pd_") p) h);
      operand = λ e. p_text x h;
    } in
    let two : IsHeadText (input d m.width) = record {
      word = (pd_text x h).word;
      named = input_port d (or_right (is_named (codes "p_") d) (is_named (codes "pd_") d) h);
      operand = λ e. pd_text x h;
    } in
    (one, (two, tt))

-- an output of what a memory commits
commit_text : (prefix x : List ℕ) (w : ℕ) → list_all is_word prefix ≡ true → is_name x ≡ true
    → is_commit_output (prefix ++ x) ≡ true → IsHeadText (output (prefix ++ x) w)
commit_text prefix x w p h named = output_text prefix x w (after_prefix prefix x p (name_word x h)) (commit_port (prefix ++ x) named)

commit_texts : (m : PortMem) → IsMemName m → Each IsHeadText (commit_ports m)
commit_texts m h =
    let x = m.name in
    let c = commit_text (codes "c_") x 1 refl h (c_port (codes "c_" ++ x) h) in
    let ca = commit_text (codes "ca_") x m.bits refl h (ca_port (codes "ca_" ++ x) h) in
    let cd = commit_text (codes "cd_") x m.width refl h (cd_port (codes "cd_" ++ x) h) in
    let c2 = commit_text (codes "c2_") x 1 refl h (c2_port (codes "c2_" ++ x) h) in
    let ca2 = commit_text (codes "ca2_") x m.bits refl h (ca2_port (codes "ca2_" ++ x) h) in
    let cd2 = commit_text (codes "cd2_") x m.width refl h (cd2_port (codes "cd2_" ++ x) h) in
    let P : Bool → Type 0 = λ b. Each IsHeadText (first_ports m ++ (if b then second_ports m else [])) in
    elim m.twice as P [ true ↦ (c, (ca, (cd, (c2, (ca2, (cd2, tt)))))) | false ↦ (c, (ca, (cd, tt))) ]

request_texts : (m : PortMem) → IsMemName m → Each IsHeadText (request_ports m)
request_texts m h =
    let x = m.name in
    let w = name_word x h in (
      output_text (codes "q_") x 1 (after_prefix (codes "q_") x refl w) (q_port (codes "q_" ++ x) h),
      (output_text (codes "qa_") x m.bits (after_prefix (codes "qa_") x refl w) (qa_port (codes "qa_" ++ x) h), tt),
    )

stage_texts : (k : ℕ) → k < 64 → Each IsHeadText (stage_ports k)
stage_texts k l =
    let d = decimal k in
    let e : are_decimals d ≡ true = decimals_are k (omega arith) in
    let n : length d ≤ 2 = length-decimal-le 2 k (omega arith) (omega arith) (omega arith) in
    let w = decimal_word k (omega arith) in
    let v = codes "v_" ++ d in
    let g = codes "g_" ++ d in
    let one : IsHeadText (output v 1) = record {
      word = after_prefix (codes "v_") d refl w;
      named = valid_port v (and_from (is_counted (codes "v_") v) _ e (le-leb (length v) 12 (omega arith)));
      operand = λ e. untrue e;
    } in
    let two : IsHeadText (output g 1) = record {
      word = after_prefix (codes "g_") d refl w;
      named = moves_port g (and_from (is_counted (codes "g_") g) _ e (le-leb (length g) 12 (omega arith)));
      operand = λ e. untrue e;
    } in
    (one, (two, tt))

stages_texts : (from n : ℕ) → from + n ≤ 64 → Each (λ k. Each IsHeadText (stage_ports k)) (range_with_len from n)
stages_texts from zero l = tt
stages_texts from (suc n) l = (stage_texts from (omega arith), stages_texts (from + 1) n (omega arith))

last_texts : Each IsHeadText (output (codes "ended") 1 ∷ output (codes "squash") 1 ∷ [])
last_texts =
    let one : IsHeadText (output (codes "ended") 1) =
    record { word = record { some = omega arith; all = refl }; named = ended_port; operand = λ e. untrue e } in
    let two : IsHeadText (output (codes "squash") 1) =
    record { word = record { some = omega arith; all = refl }; named = squash_port; operand = λ e. untrue e } in
    (one, (two, tt))

-- the ports of a pipe of at most 64 stages, with memories named in PDL, are ports that a text may have
pub pipe_texts : (stages : ℕ) (delayed locked : List PortMem)
    → stages ≤ 64 → Each IsMemName delayed → Each IsMemName locked → Each IsHeadText (pipe_ports stages delayed locked)
pipe_texts stages delayed locked l h k =
    let replies = each_flat IsHeadText reply_ports delayed (each_weaker IsMemName (λ m. Each IsHeadText (reply_ports m)) reply_texts delayed h) in
    let states = each_flat IsHeadText stage_ports (range_with_len 0 stages) (stages_texts 0 stages (omega arith)) in
    let commits = each_flat IsHeadText commit_ports locked (each_weaker IsMemName (λ m. Each IsHeadText (commit_ports m)) commit_texts locked k) in
    let requests = each_flat IsHeadText request_ports delayed (each_weaker IsMemName (λ m. Each IsHeadText (request_ports m)) request_texts delayed h) in
    each_append IsHeadText _ _ (each_append IsHeadText _ _ (each_append IsHeadText _ _ (each_append IsHeadText _ _ replies states) commits) requests) last_texts
