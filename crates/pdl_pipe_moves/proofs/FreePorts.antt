-- Whether ports are free, by nets of the stages.
use Rattle.std.proofs.Common.{◌≡◌, ◌<◌, ◌≤◌, ℕ, zero, suc, ◌+◌, refl, sym, ap, ap₂, ◌∙◌, subst, length, slice_index, List, [], ◌∷◌, ◌++◌, inl, inr, arith}
use Rattle.std.specs.Prelude.{◌⊎◌, Some}
use Rattle.std.proofs.lemmas.Bool.{cases_lt}
use Rattle.std.proofs.lemmas.List.{length-append}
use Rattle.pdl_word.specs.Each.{Each}
use Rattle.pdl_word.proofs.Each.{each_push}
use Rattle.pdl_semantics.specs.Stages.{stage_at}
use Rattle.pdl_net.specs.declared.Net.{Net}
use Rattle.pdl_net.specs.Circuit.{Circuit}
use Rattle.pdl_net.specs.Signal.{Signal}
use Rattle.pdl_net.specs.Meaning.{signal}
use Rattle.pdl_net.specs.Growth.{Keeps}
use Rattle.pdl_port.specs.declared.PortRegs.{PortRegs}
use Rattle.pdl_port.specs.Laws as port_laws
use Rattle.pdl_port.specs.Laws.{FreeLaw}
use Rattle.pdl_port.specs.Places.{stands}
use Rattle.pdl_machine_inflight.specs.Readings.{places, places_of, place_at}
use Rattle.pdl_pipe_exprs.specs.Nets.{signals_in, signal_at}
use Rattle.pdl_pipe_walk.specs.Locked.{some_at}
use Rattle.pdl_pipe_beside.specs.Ports.{StandPorts}
use Rattle.pdl_pipe_answers.specs.Ports.{IsBit}
use Rattle.pdl_pipe_nexts.specs.declared.line.StageLine.{StageLine}
use Rattle.pdl_pipe_nexts.specs.Lines.{line_pipe, line_moves, IsLineIn}
use Rattle.pdl_pipe_nexts.proofs.LineGrowth.{all_moves_same}
use Rattle.pdl_pipe_moves.specs.Inside.{LeadsInside}
use Rattle.pdl_pipe_moves.specs.Passed.{IsFreeBy, HasFree, HaveFree}
use Rattle.pdl_pipe_moves.proofs.GateParts.{bits_keep}
use Rattle.pdl_pipe_moves.proofs.PassageGrowth.{free_as, free_keep, place_leads}
use Rattle.pdl_pipe_nexts.proofs.pipe_registers.Begins.{signal_old, signal_new}

-- ---- nets by their places

-- the signal of the k-th net is the k-th signal of the nets
pub net_signal : (c : Circuit) (xs : List Net) (k : ℕ) → k < length xs → port_laws.signal_at c xs k ≡ signal_at (signals_in c xs) k
net_signal c [] k l = absurd (omega (arith, l))
net_signal c (x ∷ xs) zero l = refl
net_signal c (x ∷ xs) (suc k) l = net_signal c xs k (omega (arith, l))

-- ---- the port of a memory

-- the places of a stage are stages of the line
pub place_low : (a : Circuit) (x : StageLine) → IsLineIn a x → LeadsInside (line_pipe x) → (k : ℕ)
    → k < length (line_pipe x).stages → (i : ℕ) → i < length (places_of (stage_at (line_pipe x) k).next)
    → slice_index (places_of (stage_at (line_pipe x) k).next) i < length x.moves.now
place_low a x line inside k low i l =
    let q = (inside k (slice_index (places_of (stage_at (line_pipe x) k).next) i) low (place_leads (stage_at (line_pipe x) k).next i l)).1 in
    let n = line.count in
    let m = line.moves_count in
    omega (arith, q, n, m)

module _ (a b : Circuit) (e : Keeps a b) (x : StageLine) (line : IsLineIn a x) (inside : LeadsInside (line_pipe x))
    (stand : StandPorts a (line_pipe x) x.shared.now.ports.now) (k : ℕ) (low : k < length (line_pipe x).stages) where
  -- a net that keeps the law of a free port, by the moves of the stage's places, tells whether the port is free for stage k
  pub made_free : (m : ℕ) (port : PortRegs) (net : Net) → some_at x.shared.now.ports.now m ≡ Some port
      → port_laws.places port ≡ length (places_of (stage_at (line_pipe x) k).next) → IsBit b net
      → FreeLaw (stands port) (port_laws.places port) (signal a port.reply)
      (λ i. port_laws.signal_at a x.moves.now (slice_index (places_of (stage_at (line_pipe x) k).next) i))
      (signal b net)
      → HasFree b x k m net
  made_free m port net some count bit law = record {
    bit = bit;
    free = λ r q is at found.
        let same : (Some port) ≡ (Some q) = sym some ∙ found in
        let y : port ≡ q = cc same in
        let reply = sym (e.kept port.reply (stand.each m r port is some).placed.reply.there) in
        let n : port_laws.places port ≡ length (places (line_pipe x) r) = count ∙ ap (λ j. length (places_of (stage_at (line_pipe x) j).next)) (sym at) in
        let moves : (i : ℕ) → i < length (places (line_pipe x) r)
        → port_laws.signal_at a x.moves.now (slice_index (places_of (stage_at (line_pipe x) k).next) i) ≡ line_moves b x (place_at (line_pipe x) r i) =
        λ i l.
        net_signal a x.moves.now (slice_index (places_of (stage_at (line_pipe x) k).next) i) (place_low a x line inside k low i (omega (arith, l, n, count)))
        ∙ ap (λ (f : ℕ → Signal). f (slice_index (places_of (stage_at (line_pipe x) k).next) i)) (sym (all_moves_same a b x e line))
        ∙ ap (λ j. line_moves b x (slice_index (places_of (stage_at (line_pipe x) j).next) i)) (sym at) in
        let mine =
        free_as (stands port) (length (places (line_pipe x) r)) (signal b port.reply)
        (λ i. port_laws.signal_at a x.moves.now (slice_index (places_of (stage_at (line_pipe x) k).next) i))
        (λ i. line_moves b x (place_at (line_pipe x) r i)) (signal b net) moves
        (subst
        (λ (f : Signal). FreeLaw (stands port)
        (length (places (line_pipe x) r)) f (λ i. port_laws.signal_at a x.moves.now (slice_index (places_of (stage_at (line_pipe x) k).next) i))
        (signal b net)) reply
        (subst
        (λ j. FreeLaw (stands port) j (signal a port.reply)
        (λ i. port_laws.signal_at a x.moves.now (slice_index (places_of (stage_at (line_pipe x) k).next) i))
        (signal b net)) n law)) in
        subst
        (λ (z : PortRegs). FreeLaw (stands z) (length (places (line_pipe x) r)) (signal b z.reply)
        (λ i. line_moves b x (place_at (line_pipe x) r i)) (signal b net)) y mine;
  }

  -- the nets of free ports of a stage stay so in the circuit that grew
  pub have_keep : (nets : List Net) (n : ℕ) → HaveFree a x k nets n → HaveFree b x k nets n
  have_keep nets n h = record {
    count = h.count;
    bits = bits_keep a b nets e h.bits;
    free = λ i l.
        subst (λ (f : Signal). IsFreeBy b x (line_moves b x) k i f) (sym (ap (λ fs. signal_at fs i) (keeps nets h.bits)))
        (subst (λ (ms : ℕ → Signal). IsFreeBy b x ms k i (signal_at (signals_in a nets) i))
        (sym (all_moves_same a b x e line))
        (free_keep a b e x line stand (line_moves a x) k i (signal_at (signals_in a nets) i) (h.free i l)));
  }
    where
      keeps : (xs : List Net) → Each (IsBit a) xs → signals_in b xs ≡ signals_in a xs
      keeps [] t = refl
      keeps (y ∷ ys) t = ap₂ (λ f fs. f ∷ fs) (e.kept y t.0.there) (keeps ys t.1)

-- with the net of one memory more, the first n + 1 memories have theirs
pub free_more : (c : Circuit) (x : StageLine) (k : ℕ) (nets : List Net) (n : ℕ) (net : Net) → HaveFree c x k nets n
    → HasFree c x k n net → HaveFree c x k (nets ++ net ∷ []) (n + 1)
free_more c x k nets n net h new = record {
  count = length-append nets (net ∷ []) ∙ ap (λ i. i + 1) h.count;
  bits = each_push (IsBit c) nets net h.bits new.bit;
  free = λ m l. at m l (cases_lt m n);
}
  where
    at : (m : ℕ) → m < n + 1 → (m < n) ⊎ (n ≤ m) → IsFreeBy c x (line_moves c x) k m (signal_at (signals_in c (nets ++ net ∷ [])) m)
    at m l (inl q) =
        subst (λ (f : Signal). IsFreeBy c x (line_moves c x) k m f) (sym (signal_old c nets net m (let e = h.count in omega (arith, q, e)))) (h.free m q)
    at m l (inr q) =
        let e : n ≡ m = omega (arith, l, q) in
        subst (λ (f : Signal). IsFreeBy c x (line_moves c x) k m f)
        (sym (signal_new c nets net m (let d = h.count in omega (arith, e, d))))
        (subst (λ j. IsFreeBy c x (line_moves c x) k j (signal c net)) e new.free)
