pub mod Exprs
pub mod Apart
pub mod Stmts
pub mod Same
