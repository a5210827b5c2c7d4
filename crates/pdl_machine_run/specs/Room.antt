-- Room in what a stage's deeds are kept in.
use Rattle.std.specs.Prelude.{◌≡◌, ℕ, ◌+◌, ◌*◌, ◌≤◌, vec_len, vec_capacity}
use Rattle.pdl_machine_run.specs.declared.deeds.Deeds as r_deeds

-- how much there is room for in each part of a stage's deeds
pub record Capacities : Type 0 where
  pub advice : ℕ
  pub guess : ℕ
  pub held : ℕ
  pub blocks : ℕ
  pub reserves : ℕ
  pub writes : ℕ
  pub releases : ℕ
  pub asks : ℕ
  pub advises : ℕ
  pub args : ℕ
  pub verified : ℕ
  pub whole : ℕ

-- the room in each vector of a stage's deeds
abbrev pub capacities : r_deeds.Deeds → Capacities
capacities r =
    record {
      advice = vec_capacity r.advice;
      guess = vec_capacity r.guess;
      held = vec_capacity r.held;
      blocks = vec_capacity r.blocks;
      reserves = vec_capacity r.reserves;
      writes = vec_capacity r.writes;
      releases = vec_capacity r.releases;
      asks = vec_capacity r.asks;
      advises = vec_capacity r.advises;
      args = vec_capacity r.args;
      verified = vec_capacity r.verified;
      whole = vec_capacity r.whole;
    }

-- room for the deeds of n more statements
pub record HasRoomFor (n : ℕ) (r : r_deeds.Deeds) : Type 0 where
  pub advice : vec_len r.advice + n ≤ vec_capacity r.advice
  pub held : vec_len r.held + n ≤ vec_capacity r.held
  pub blocks : vec_len r.blocks + n ≤ vec_capacity r.blocks
  pub reserves : vec_len r.reserves + n ≤ vec_capacity r.reserves
  pub writes : vec_len r.writes + n ≤ vec_capacity r.writes
  pub releases : vec_len r.releases + n ≤ vec_capacity r.releases
  pub asks : vec_len r.asks + n ≤ vec_capacity r.asks
  pub advises : vec_len r.advises + n ≤ vec_capacity r.advises

-- nothing is kept there, save values, advised ones and the guess
pub record IsEmpty (r : r_deeds.Deeds) : Type 0 where
  pub held : vec_len r.held ≡ 0
  pub blocks : vec_len r.blocks ≡ 0
  pub reserves : vec_len r.reserves ≡ 0
  pub writes : vec_len r.writes ≡ 0
  pub releases : vec_len r.releases ≡ 0
  pub asks : vec_len r.asks ≡ 0
  pub advises : vec_len r.advises ≡ 0

-- room for the deeds of n statements after a thread that holds at most n locations and has at most n advised values, for k arguments of each kind, and for v values
pub record IsLarge (n k v : ℕ) (c : Capacities) : Type 0 where
  pub advice : 2 * n ≤ c.advice
  pub guess : k ≤ c.guess
  pub held : 2 * n ≤ c.held
  pub blocks : n ≤ c.blocks
  pub reserves : n ≤ c.reserves
  pub writes : n ≤ c.writes
  pub releases : n ≤ c.releases
  pub asks : n ≤ c.asks
  pub advises : n ≤ c.advises
  pub args : k ≤ c.args
  pub verified : k ≤ c.verified
  pub whole : v ≤ c.whole
