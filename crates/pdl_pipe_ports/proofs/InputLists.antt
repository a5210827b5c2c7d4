-- Inputs of delayed memories, one after the other.
use Rattle.std.proofs.Common.{◌≡◌, ◌∙◌, ℕ, suc, ◌+◌, ◌*◌, ◌<◌, ◌≤◌, Bool, true, false, List, [], ◌∷◌, ◌++◌, length, length-append, get_or, take, flat_map, filter_map, if◌then◌else◌, codes, refl, sym, ap, ap₂, subst, arith, append_assoc, append-nil}
use borrow.Author.Count.{below_more}
use Rattle.std.proofs.lemmas.List.{take_more, take_all}
use Rattle.std.proofs.lemmas.List.Elements.{filter_map-append}
use Rattle.std.proofs.lemmas.List.Sums.{count_by_more_yes, count_by_more_no}
use Rattle.std.proofs.lemmas.Grind.{flat_map-append}
use Rattle.std.specs.Prelude.{Option}
use Rattle.pdl_semantics.specs.Flat.{Mem, Pipe, is_delayed}
use Rattle.pdl_syntax_tree.specs.View.{mem_kind_view}
use Rattle.pdl_semantics.specs.Stages.{plain_mem, mem_at, reply_place}
use Rattle.pdl_form.specs.Form.{Form}
use Rattle.pdl_form.specs.declared.form.FlatMem as r_mem
use Rattle.pdl_form.specs.View.{mem_view, mems_view, mem_names}
use Rattle.pdl_net.specs.declared.Net.{Net}
use Rattle.pdl_net.specs.declared.Port.{Port}
use Rattle.pdl_net.specs.Circuit.{Circuit, port_input, inputs_of}
use Rattle.pdl_net.specs.Signal.{Signal, input_signal}
use Rattle.pdl_net.specs.Meaning.{Means}
use Rattle.pdl_net.specs.Growth.{Keeps, ExtendsPorts}
use Rattle.pdl_net.proofs.Keeps.{ports_keeps, means_keeps}
use Rattle.pdl_build.specs.Change.{input_port}
use Rattle.pdl_law_sides.specs.WholeNetlist.{reply_ports}
use Rattle.pdl_pipe_walk.specs.Locked.{some_at}
use Rattle.pdl_pipe_beside.specs.declared.PortInput.{PortInput}
use Rattle.pdl_pipe_locks.proofs.MadeMemories.{mem_count, name_count}
use Rattle.pdl_pipe_ports.specs.ToldOutputs.{AreNames}
use Rattle.pdl_pipe_ports.specs.Inputs.{reply_pair, mem_ports, IsReplyOf, AreReplies}
use Rattle.pdl_pipe_walk.proofs.Lists.{some_before, some_last}

-- ---- ports added one after another

-- ports that are added after others are added together with them
pub ports_trans : (a b c : Circuit) (front back : List Port) → ExtendsPorts a b front → ExtendsPorts b c back
    → ExtendsPorts a c (front ++ back)
ports_trans a b c front back x y = record {
  there = λ n h. y.there n (x.there n h);
  kept = λ n h. y.kept n (x.there n h) ∙ x.kept n h;
  has_reg = λ r h. y.has_reg r (x.has_reg r h);
  width = λ r h. y.width r (x.has_reg r h) ∙ x.width r h;
  reset = λ r h. y.reset r (x.has_reg r h) ∙ x.reset r h;
  has_array = λ m h. y.has_array m (x.has_array m h);
  word = λ m h. y.word m (x.has_array m h) ∙ x.word m h;
  depth = λ m h. y.depth m (x.has_array m h) ∙ x.depth m h;
  nexts = λ r h. y.nexts r (x.has_reg r h) ∙ x.nexts r h;
  writes = λ m h. y.writes m (x.has_array m h) ∙ x.writes m h;
  ports = y.ports ∙ ap (λ ps. ps ++ back) x.ports ∙ append_assoc a.ports front back;
  shapes = y.shapes ∙ x.shapes;
}

-- the number of inputs with those of more ports
pub inputs_more : (a b : Circuit) (added : List Port)
    → b.ports ≡ a.ports ++ added → length (inputs_of b) ≡ length (inputs_of a) + length (filter_map port_input added)
inputs_more a b added e =
    ap (λ ps. length (filter_map port_input ps)) e ∙ ap length (filter_map-append port_input a.ports added)
    ∙ length-append (inputs_of a) (filter_map port_input added)

-- the two inputs of a delayed memory
module _ (a b d : Circuit) (m : r_mem.FlatMem) (x y : List ℕ) (first : x ≡ codes "p_" ++ m.name)
    (second : y ≡ codes "pd_" ++ m.name) (one : ExtendsPorts a b (input_port x 1 ∷ []))
    (two : ExtendsPorts b d (input_port y m.width ∷ [])) where
  -- the two inputs of the memory are added one after the other
  pub pair_added : ExtendsPorts a d (reply_pair m)
  pair_added =
      subst (ExtendsPorts a d) (ap₂ (λ (p q : List ℕ). input_port p 1 ∷ input_port q m.width ∷ []) first second)
      (ports_trans a b d (input_port x 1 ∷ []) (input_port y m.width ∷ []) one two)

  -- a net that means a signal beside the first input means it beside both
  pub reply_means : (i : Net) (f : Signal) → Means b i f → Means d i f
  reply_means i f h = means_keeps b d i f (ports_keeps b d (input_port y m.width ∷ []) two) h

  -- a net that means the input added second means the one whose number follows the reply's
  pub word_means : (i : Net) → Means d i (input_signal m.width (length (inputs_of b))) → Means d i (input_signal m.width (length (inputs_of a) + 1))
  word_means i h = subst (λ n. Means d i (input_signal m.width n)) (inputs_more a b (input_port x 1 ∷ []) one.ports) h

-- the input ports of the first i + 1 memories are those of the first i and those of the next one
pub mems_more : (ms : List r_mem.FlatMem) (i : ℕ) (d : r_mem.FlatMem)
    → i < length ms → flat_map mem_ports (take (i + 1) ms) ≡ flat_map mem_ports (take i ms) ++ mem_ports (get_or ms i d)
mems_more ms i d h =
    ap (flat_map mem_ports) (take_more ms i d h) ∙ flat_map-append mem_ports (take i ms) (get_or ms i d ∷ [])
    ∙ ap (λ ps. flat_map mem_ports (take i ms) ++ ps) (append-nil (mem_ports (get_or ms i d)))

-- the inputs of memories are the ports that the law of a netlist asks for
ports_as : (k : ℕ) (ms : List r_mem.FlatMem) (names : ℕ → List ℕ)
    → ((i j : ℕ) → j ≡ k + i → i < length ms → names j ≡ get_or (mem_names ms) i [])
    → flat_map mem_ports ms ≡ reply_ports names k (mems_view ms)
ports_as k [] names h = refl
ports_as k (m ∷ ms) names h =
    let e : m.name ≡ names k = sym (h 0 k (omega arith) (omega arith)) in
    ap₂ (λ (ps qs : List Port). ps ++ qs)
    (ap (λ (x : List ℕ). if is_delayed (mem_kind_view m.kind) then input_port (codes "p_" ++ x) 1 ∷ input_port (codes "pd_" ++ x) m.width ∷ [] else []) e)
    (ports_as (suc k) ms names (λ i j u l. h (suc i) j (omega (arith, u)) (omega (arith, l))))

-- the inputs of all memories, with their names, are the ports that the law of a netlist asks for
pub ports_all : (f : Form) (ms : List r_mem.FlatMem) (i : ℕ) (names : ℕ → List ℕ)
    → mems_view ms ≡ f.pipe.mems → mem_names ms ≡ f.names → length ms ≤ i → AreNames f.names names
    → flat_map mem_ports (take i ms) ≡ reply_ports names 0 f.pipe.mems
ports_all f ms i names same named past told =
    let count = name_count f.names f.pipe ms named same in
    let many = mem_count f.pipe ms same in
    ap (flat_map mem_ports) (take_all i ms past)
    ∙ ports_as 0 ms names
    (λ i j e l. ap names (omega (arith, e)) ∙ told i (omega (arith, l, count, many)) ∙ ap (λ (xs : List (List ℕ)). get_or xs i []) (sym named))
    ∙ ap (reply_ports names 0) same

-- ---- what comes from the memories

-- one where it holds
abbrev one_if : Bool → ℕ
one_if true = 1
one_if false = 0

-- the next place counts one memory more, where that is delayed
place_more : (p : Pipe) (i : ℕ) → i < length p.mems → reply_place p (i + 1) ≡ reply_place p i + one_if (is_delayed (mem_at p i).kind)
place_more p i l = by (is_delayed (mem_at p i).kind) refl
  where
    by : (b : Bool) → is_delayed (mem_at p i).kind ≡ b → reply_place p (i + 1) ≡ reply_place p i + one_if b
    by true e = count_by_more_yes (λ (x : Mem). is_delayed x.kind) p.mems i plain_mem l e
    by false e = count_by_more_no (λ (x : Mem). is_delayed x.kind) p.mems i plain_mem l e ∙ (omega arith)

-- with one memory more there are two inputs for each delayed memory so far
pub inputs_place : (p : Pipe) (a b : Circuit) (m : r_mem.FlatMem) (i : ℕ)
    → i < length p.mems → mem_view m ≡ mem_at p i → b.ports ≡ a.ports ++ mem_ports m
    → length (inputs_of a) ≡ 2 * reply_place p i → length (inputs_of b) ≡ 2 * reply_place p (i + 1)
inputs_place p a b m i l is e h =
    let more = place_more p i l in
    let long = inputs_more a b (mem_ports m) e in
    let two = by (is_delayed (mem_kind_view m.kind)) in
    let one = ap (λ (x : Mem). one_if (is_delayed x.kind)) is in
    omega (arith, more, long, two, one, h)
  where
    by : (b : Bool) → length (filter_map port_input (if b then reply_pair m else [])) ≡ 2 * one_if b
    by true = refl
    by false = refl

reply_kept : (a b : Circuit) (x : Mem) (place : ℕ) (o : Option PortInput) → Keeps a b → IsReplyOf a x place o → IsReplyOf b x place o
reply_kept a b x place o k h = record {
  some = h.some;
  reply = λ i e. means_keeps a b i.reply _ k (h.reply i e);
  word = λ i e. means_keeps a b i.word _ k (h.word i e);
}

-- the inputs of the delayed memories stay in a circuit that grew
pub replies_kept : (a b : Circuit) (p : Pipe) (xs : List (Option PortInput)) (n : ℕ) → Keeps a b → AreReplies a p xs n → AreReplies b p xs n
replies_kept a b p xs n k h = record {
  count = h.count;
  each = λ m l. reply_kept a b (mem_at p m) (2 * reply_place p m) (some_at xs m) k (h.each m l);
}

-- with what comes from one memory more, the first n + 1 have theirs
pub replies_more : (a b : Circuit) (p : Pipe) (xs : List (Option PortInput)) (o : Option PortInput) (n : ℕ) → Keeps a b
    → IsReplyOf b (mem_at p n) (2 * reply_place p n) o → AreReplies a p xs n → AreReplies b p (xs ++ o ∷ []) (n + 1)
replies_more a b p xs o n k new h = record {
  count = length-append xs (o ∷ []) ∙ ap (λ i. i + 1) h.count;
  each = below_more (λ m. IsReplyOf b (mem_at p m) (2 * reply_place p m) (some_at (xs ++ o ∷ []) m)) n
      (λ m l. subst (IsReplyOf b (mem_at p m) (2 * reply_place p m))
      (sym (some_before xs o m (omega (arith, l, h.count))))
      (reply_kept a b (mem_at p m) (2 * reply_place p m) (some_at xs m) k (h.each m l)))
      (subst (IsReplyOf b (mem_at p n) (2 * reply_place p n)) (sym (some_last xs o n h.count)) new);
}
