pub mod AskedLocks
