pub mod SuitedLocks
