-- Small netlists, computed.
use Rattle.std.proofs.Common.{◌≡◌, ℕ, List, [], ◌∷◌, ◌++◌, map, Some, None, true, false, codes, decimal, refl}
use Rattle.std.specs.Prelude.{slice_index}
use Rattle.pdl_net.specs.declared.Net.TheVariants.{Input, Reg as RegNet, Cell as CellNet}
use Rattle.pdl_net.specs.declared.BinOp.TheVariants.{Add, Sub, Xor, Lt, Shl, Shr}
use Rattle.pdl_net.specs.declared.Dir.TheVariants.{In, Out}
use Rattle.pdl_net.specs.declared.Port.{Port}
use Rattle.pdl_net.specs.declared.Net.{Net}
use Rattle.pdl_net.specs.declared.Cell.TheVariants.{Const, Not, Bin, Mux, Slice, Cat, Rep, Read}
use Rattle.pdl_net.specs.declared.Netlist.{Netlist}
use Rattle.pdl_word.specs.Words as words
use Rattle.pdl_net.specs.Signal.{input_value, reg_value, const_value, not_value, bin_value, mux_value, slice_value, cat_value, rep_value, read_value}
use Rattle.pdl_net.specs.Meaning.{signal, signals}
use Rattle.pdl_net.specs.Cycle.{output_values, next_regs, next_arrays}
use Rattle.pdl_net.specs.Run.{nports, committed_by, committed2_by}
use Rattle.pdl_net.specs.Pipe.{pipe_ports}

abbrev out : List ℕ → ℕ → Net → Port
out name width net = record { name = name; width = width; dir = Out net }

abbrev into : List ℕ → ℕ → Port
into name width = record { name = name; width = width; dir = In }

-- a register of 2 bits that counts up from 1
abbrev counter : Netlist
counter = record {
  name = codes "counter";
  ports = out (codes "v_0") 2 (RegNet 0) ∷ [];
  regs = record { width = 2; reset = 1; next = CellNet 1 } ∷ [];
  arrays = [];
  cells = Const 2 1 ∷ Bin Add (RegNet 0) (CellNet 0) ∷ [];
  mems = [];
}

counts : map (λ s. s.ports) (nports counter [] (0 ∷ 0 ∷ 0 ∷ 0 ∷ [])) ≡ (1 ∷ []) ∷ (2 ∷ []) ∷ (3 ∷ []) ∷ (0 ∷ []) ∷ []
unfolding output_values next_regs next_arrays signal signals input_value reg_value const_value not_value bin_value mux_value slice_value cat_value rep_value read_value words.add words.sub words.xor words.less words.shl words.shr words.complement words.mux words.slice words.cat words.rep
counts = refl

-- each kind of cell, over 1100 and 0010
abbrev each_cell : Netlist
each_cell = record {
  name = codes "each";
  ports = map (λ k. out (codes "n") 1 (CellNet k)) (2 ∷ 3 ∷ 4 ∷ 5 ∷ 6 ∷ 7 ∷ 8 ∷ 9 ∷ 10 ∷ 11 ∷ []);
  regs = [];
  arrays = [];
  cells =
      Const 4 12
      ∷ Const 4 2
      ∷ Not (CellNet 0)
      ∷ Bin Sub (CellNet 1) (CellNet 0)
      ∷ Bin Xor (CellNet 0) (CellNet 1)
      ∷ Bin Lt (CellNet 1) (CellNet 0)
      ∷ Bin Shl (CellNet 0) (CellNet 1)
      ∷ Bin Shr (CellNet 0) (CellNet 0)
      ∷ Mux (CellNet 5) (CellNet 0) (CellNet 1)
      ∷ Slice (CellNet 0) 3 2
      ∷ Cat (CellNet 0) (CellNet 9)
      ∷ Rep 3 (CellNet 9)
      ∷ [];
  mems = [];
}

cells_give : map (λ s. s.ports) (nports each_cell [] (0 ∷ [])) ≡ (3 ∷ 6 ∷ 14 ∷ 1 ∷ 0 ∷ 0 ∷ 12 ∷ 3 ∷ 51 ∷ 63 ∷ []) ∷ []
unfolding output_values next_regs next_arrays signal signals input_value reg_value const_value not_value bin_value mux_value slice_value cat_value rep_value read_value words.add words.sub words.xor words.less words.shl words.shr words.complement words.mux words.slice words.cat words.rep
cells_give = refl

-- two write ports at one address: the later one's value stands; the array has a word more than the image gives it
abbrev written : Netlist
written = record {
  name = codes "written";
  ports = out (codes "c_m") 1 (CellNet 0) ∷ out (codes "ca_m") 1 (CellNet 1) ∷ out (codes "cd_m") 4 (CellNet 5) ∷ [];
  regs = [];
  arrays =
      record {
        name = codes "m";
        width = 4;
        depth = 2;
        writes =
            record { enable = CellNet 0; addr = CellNet 1; value = CellNet 2 }
            ∷ record { enable = CellNet 0; addr = CellNet 1; value = CellNet 3 }
            ∷ record { enable = CellNet 1; addr = CellNet 1; value = CellNet 2 } ∷ [];
      }
      ∷ [];
  cells = Const 1 1 ∷ Const 1 0 ∷ Const 4 7 ∷ Const 4 9 ∷ Const 1 1 ∷ Read 0 (CellNet 1) ∷ [];
  mems = record { name = codes "m"; width = 4; depth = 1; delayed = false } ∷ [];
}

later_stands : map (λ s. committed_by written s 0) (nports written ((5 ∷ []) ∷ []) (0 ∷ 0 ∷ [])) ≡ Some (0, 5) ∷ Some (0, 9) ∷ []
unfolding output_values next_regs next_arrays signal signals input_value reg_value const_value not_value bin_value mux_value slice_value cat_value rep_value read_value words.add words.sub words.xor words.less words.shl words.shr words.complement words.mux words.slice words.cat words.rep
later_stands = refl

-- a delayed memory is asked for address 1 in each cycle, and commits 8 to it
abbrev asked : Netlist
asked = record {
  name = codes "asked";
  ports =
      into (codes "p_m") 1 ∷ into (codes "pd_m") 4 ∷ out (codes "c_m") 1 (CellNet 0) ∷ out (codes "ca_m") 1 (CellNet 0)
      ∷ out (codes "cd_m") 4 (CellNet 1) ∷ out (codes "q_m") 1 (CellNet 0) ∷ out (codes "qa_m") 1 (CellNet 0)
      ∷ out (codes "x") 1 (Input 0) ∷ out (codes "y") 4 (Input 1) ∷ [];
  regs = [];
  arrays = [];
  cells = Const 1 1 ∷ Const 4 8 ∷ [];
  mems = record { name = codes "m"; width = 4; depth = 2; delayed = true } ∷ [];
}

-- no request is outstanding in the first cycle; then a bit of 1 gives the word at the start, and a bit of 0 makes a wait
answers_come : nports asked ((5 ∷ 6 ∷ []) ∷ []) (1 ∷ 0 ∷ 1 ∷ []) ≡
    record { ports = 1 ∷ 1 ∷ 8 ∷ 1 ∷ 1 ∷ 0 ∷ 0 ∷ []; waited = false }
    ∷ record { ports = 1 ∷ 1 ∷ 8 ∷ 1 ∷ 1 ∷ 0 ∷ 0 ∷ []; waited = true }
    ∷ record { ports = 1 ∷ 1 ∷ 8 ∷ 1 ∷ 1 ∷ 1 ∷ 8 ∷ []; waited = false }
    ∷ []
unfolding output_values next_regs next_arrays signal signals input_value reg_value const_value not_value bin_value mux_value slice_value cat_value rep_value read_value words.add words.sub words.xor words.less words.shl words.shr words.complement words.mux words.slice words.cat words.rep
answers_come = refl

-- a delayed memory commits 8 and then 9 to address 1, and is asked for it, in each cycle
abbrev second : Netlist
second = record {
  name = codes "second";
  ports =
      into (codes "p_m") 1 ∷ into (codes "pd_m") 4 ∷ out (codes "c_m") 1 (CellNet 0) ∷ out (codes "ca_m") 1 (CellNet 0)
      ∷ out (codes "cd_m") 4 (CellNet 1) ∷ out (codes "c2_m") 1 (CellNet 0) ∷ out (codes "ca2_m") 1 (CellNet 0)
      ∷ out (codes "cd2_m") 4 (CellNet 2) ∷ out (codes "q_m") 1 (CellNet 0) ∷ out (codes "qa_m") 1 (CellNet 0)
      ∷ out (codes "x") 1 (Input 0) ∷ out (codes "y") 4 (Input 1) ∷ [];
  regs = [];
  arrays = [];
  cells = Const 1 1 ∷ Const 4 8 ∷ Const 4 9 ∷ [];
  mems = record { name = codes "m"; width = 4; depth = 2; delayed = true } ∷ [];
}

-- the second value holds
second_holds : map (λ s. slice_index s.ports 9) (nports second ((5 ∷ 6 ∷ []) ∷ []) (1 ∷ 1 ∷ [])) ≡ 0 ∷ 9 ∷ []
unfolding output_values next_regs next_arrays signal signals input_value reg_value const_value not_value bin_value mux_value slice_value cat_value rep_value read_value words.add words.sub words.xor words.less words.shl words.shr words.complement words.mux words.slice words.cat words.rep
second_holds = refl

-- both are told, each by its own ports
first_told : map (λ s. committed_by second s 0) (nports second ((5 ∷ 6 ∷ []) ∷ []) (0 ∷ [])) ≡ Some (1, 8) ∷ []
unfolding output_values next_regs next_arrays signal signals input_value reg_value const_value not_value bin_value mux_value slice_value cat_value rep_value read_value words.add words.sub words.xor words.less words.shl words.shr words.complement words.mux words.slice words.cat words.rep
first_told = refl

second_told : map (λ s. committed2_by second s 0) (nports second ((5 ∷ 6 ∷ []) ∷ []) (0 ∷ [])) ≡ Some (1, 9) ∷ []
unfolding output_values next_regs next_arrays signal signals input_value reg_value const_value not_value bin_value mux_value slice_value cat_value rep_value read_value words.add words.sub words.xor words.less words.shl words.shr words.complement words.mux words.slice words.cat words.rep
second_told = refl

-- a memory without second ports commits nothing second
none_second : map (λ s. committed2_by asked s 0) (nports asked ((5 ∷ 6 ∷ []) ∷ []) (0 ∷ [])) ≡ None ∷ []
unfolding output_values next_regs next_arrays signal signals input_value reg_value const_value not_value bin_value mux_value slice_value cat_value rep_value read_value words.add words.sub words.xor words.less words.shl words.shr words.complement words.mux words.slice words.cat words.rep
none_second = refl

-- the ports of a pipe of two stages, with a delayed memory and two locked ones, of which a cycle may commit two writes of the second
ports_stand : map (λ h. h.name)
    (pipe_ports 2 (record { name = codes "d"; width = 8; bits = 3; twice = false } ∷ [])
    (record { name = codes "m"; width = 4; bits = 2; twice = false } ∷ record { name = codes "w"; width = 4; bits = 2; twice = true } ∷ []))
    ≡ codes "p_d" ∷ codes "pd_d" ∷ (codes "v_" ++ decimal 0) ∷ (codes "g_" ++ decimal 0) ∷ (codes "v_" ++ decimal 1)
    ∷ (codes "g_" ++ decimal 1) ∷ codes "c_m" ∷ codes "ca_m" ∷ codes "cd_m"
    ∷ codes "c_w" ∷ codes "ca_w" ∷ codes "cd_w" ∷ codes "c2_w" ∷ codes "ca2_w" ∷ codes "cd2_w" ∷ codes "q_d" ∷ codes "qa_d"
    ∷ codes "ended" ∷ codes "squash" ∷ []
ports_stand = refl

-- two delayed memories: d is asked in each cycle, e in the first one alone
abbrev asked_once : Netlist
asked_once = record {
  name = codes "asked_once";
  ports =
      into (codes "p_d") 1 ∷ into (codes "pd_d") 4 ∷ into (codes "p_e") 1 ∷ into (codes "pd_e") 4
      ∷ out (codes "q_d") 1 (CellNet 0) ∷ out (codes "qa_d") 1 (CellNet 3)
      ∷ out (codes "q_e") 1 (CellNet 2) ∷ out (codes "qa_e") 1 (CellNet 0)
      ∷ out (codes "x") 4 (Input 1) ∷ out (codes "y") 4 (Input 3) ∷ [];
  regs = record { width = 2; reset = 0; next = CellNet 4 } ∷ [];
  arrays = [];
  cells = Const 1 1 ∷ Const 2 1 ∷ Bin Lt (RegNet 0) (CellNet 1) ∷ Slice (RegNet 0) 0 0 ∷ Bin Add (RegNet 0) (CellNet 1) ∷ [];
  mems = record { name = codes "d"; width = 4; depth = 2; delayed = true } ∷ record { name = codes "e"; width = 4; depth = 2; delayed = true } ∷ [];
}

-- a request waits for its own memory's bit and is answered once; one of a later cycle takes the place of one that waits
answers_wait : nports asked_once ((5 ∷ 6 ∷ []) ∷ (7 ∷ 8 ∷ []) ∷ []) (0 ∷ 1 ∷ 2 ∷ 3 ∷ []) ≡
    record { ports = 1 ∷ 0 ∷ 1 ∷ 1 ∷ 0 ∷ 0 ∷ []; waited = false }
    ∷ record { ports = 1 ∷ 1 ∷ 0 ∷ 1 ∷ 5 ∷ 0 ∷ []; waited = true }
    ∷ record { ports = 1 ∷ 0 ∷ 0 ∷ 1 ∷ 0 ∷ 8 ∷ []; waited = true }
    ∷ record { ports = 1 ∷ 1 ∷ 0 ∷ 1 ∷ 5 ∷ 0 ∷ []; waited = false }
    ∷ []
unfolding output_values next_regs next_arrays signal signals input_value reg_value const_value not_value bin_value mux_value slice_value cat_value rep_value read_value words.add words.sub words.xor words.less words.shl words.shr words.complement words.mux words.slice words.cat words.rep
answers_wait = refl
