-- What stands in a netlist before its stages: inputs, memories with their locks, and ports.
use Rattle.std.proofs.Common.{◌≡◌, suc, refl, ap, ◌∙◌, length, map, List, [], ◌∷◌, ◌++◌, arith}
use Rattle.std.specs.Prelude.{Option}
use Rattle.pdl_form.specs.Form.{Form}
use Rattle.pdl_build.specs.Change.{empty_circuit}
use Rattle.pdl_net.specs.declared.Array.{Array}
use Rattle.pdl_net.specs.Circuit.{Circuit, shape_of, shapes_of}
use Rattle.pdl_net.specs.Growth.{Extends, ExtendsArrays, Keeps}
use Rattle.pdl_net.proofs.Keeps.{extends_keeps, extends_trans, arrays_keeps, keeps_trans, regs_grow}
use Rattle.pdl_port.specs.declared.PortRegs.{PortRegs}
use Rattle.pdl_port.specs.Laws.{own as port_own}
use Rattle.pdl_pipe_exprs.specs.declared.bits.Bits.{Bits}
use Rattle.pdl_pipe_exprs.specs.Conditions.{AreBits}
use Rattle.pdl_pipe_walk.specs.declared.locks.MemLock.{MemLock}
use Rattle.pdl_pipe_walk.specs.Locked.{Members, AreLocked}
use Rattle.pdl_pipe_walk.proofs.NetGrowth.{bits_keep}
use Rattle.pdl_pipe_answers.specs.Ports.{HasAnswers}
use Rattle.pdl_pipe_beside.specs.declared.PortInput.{PortInput}
use Rattle.pdl_pipe_beside.specs.Parts.{AreParts}
use Rattle.pdl_pipe_beside.specs.Ports.{ReadsLeadOn, has_port}
use Rattle.pdl_pipe_beside.proofs.Beside.{made_ports}
use Rattle.pdl_pipe_locks.specs.Lawful.{AreLawful, AreUnwritten}
use Rattle.pdl_pipe_locks.specs.Suited.{shapes_in}
use Rattle.pdl_pipe_locks.proofs.Law.{locks_end}
use Rattle.pdl_pipe_locks.proofs.LockGrowth.{Stays, locked_kept, laws_kept}
use Rattle.pdl_pipe_ports.specs.Inputs.{AreReplies, AreReadDelayed, AreWhereRead, HasReplies}
use Rattle.pdl_pipe_ports.proofs.RequestPorts.{are_taken}
use Rattle.pdl_pipe_ports.proofs.InputLists.{replies_kept}
use Rattle.pdl_pipe.specs.Emitted.{HasMemoriesIn}
use Rattle.pdl_pipe_emitted.specs.Emitted.{name_in}
use Rattle.pdl_pipe.proofs.KeptSteps.{unwritten_kept}

-- no arrays have no shapes
no_shapes : (xs : List Array) → map shape_of xs ≡ [] → xs ≡ []
no_shapes [] e = refl
no_shapes (x ∷ xs) e = absurd (let n : suc (length (map shape_of xs)) ≡ 0 = ap length e in omega (arith, n))

-- a circuit without shapes of arrays has no arrays
pub no_arrays : (c : Circuit) → shapes_of c ≡ [] → c.arrays ≡ []
unfolding shapes_of
no_arrays c e = no_shapes c.arrays e

-- the empty circuit has no shapes of arrays
pub empty_shapes : (c : Circuit) → c ≡ empty_circuit → shapes_of c ≡ []
unfolding shapes_of
empty_shapes c e = ap (λ (z : Circuit). map shape_of z.arrays) e

-- inputs in circuit a, memories in b, bits in c, ports in d
module _ {T : Type 0} (l : Members T) (stays : Stays l) (a b c d : Circuit) (f : Form) (bits : Bits)
    (xs : List (Option (MemLock T))) (ins reads : List (Option PortInput)) (qs : List (Option PortRegs))
    (ab : ExtendsArrays a b (shapes_in f.names f.pipe.mems)) (bc : Extends b c) (cd : Extends c d) where
  keeps_ac : Keeps a c
  keeps_ac = keeps_trans a b c (arrays_keeps a b (shapes_in f.names f.pipe.mems) ab) (extends_keeps b c bc)

  bd : Extends b d
  bd = extends_trans b c d bc cd

  keeps_bd : Keeps b d
  keeps_bd = extends_keeps b d bd

  -- what comes from the delayed memories is there in the circuit with the bits as it was in that of the inputs
  pub inputs_now : AreReplies a f.pipe ins (length f.pipe.mems) → AreReplies c f.pipe ins (length f.pipe.mems)
  inputs_now = replies_kept a c f.pipe ins (length f.pipe.mems) keeps_ac

  -- memories with their locks, and the ports of those that are read delayed, stand in the last circuit
  pub memories_now : AreLocked l b f.pipe xs → AreLawful l b f.pipe xs → AreUnwritten b f.pipe → AreBits c bits
      → AreReplies a f.pipe ins (length f.pipe.mems) → AreReadDelayed f.pipe → ReadsLeadOn f.pipe
      → AreWhereRead f.pipe ins reads (length ins)
      → AreParts port_own (has_port d f.pipe reads) (length c.regs) (length d.regs) qs (length f.pipe.mems)
      → HasAnswers d f.pipe qs → HasReplies a f → shapes_of a ≡ [] → HasMemoriesIn l d f bits xs qs
  memories_now locked lawful unwritten are replies delayed onward read parts answers ports none = (
    length c.regs,
    length d.regs,
    record {
      are_bits = bits_keep c d bits (extends_keeps c d cd) are;
      locked = locked_kept l b d f.pipe xs keeps_bd stays locked;
      lawful = laws_kept l b d f.pipe xs keeps_bd locked lawful;
      unwritten = unwritten_kept b d f.pipe (λ k has. bd.writes k has) locked.has_array unwritten;
      locks_to = λ m low. let e = locks_end l b f.pipe xs locked lawful m low in let n = regs_grow b c (extends_keeps b c bc) in omega (arith, e, n);
      stand_ports = made_ports d f.pipe reads (length c.regs) (length d.regs) qs onward parts;
      answers = answers;
      ports_from = λ m q low is. parts.from m q low is;
      ports_to = λ m q low is. parts.to m q low is;
      order = (regs_grow c d (extends_keeps c d cd), omega arith);
      taken =
          λ z e. are_taken d z f.pipe ins reads qs (length c.regs) (length d.regs)
          (replies_kept c z f.pipe ins (length f.pipe.mems) (keeps_trans c d z (extends_keeps c d cd) e) (inputs_now replies)) delayed read parts;
      inputs = bd.ports ∙ ab.ports ∙ ports (name_in f) (λ m low. refl);
      shapes = bd.shapes ∙ ab.shapes ∙ ap (λ ss. ss ++ shapes_in f.names f.pipe.mems) none;
    },
  )
