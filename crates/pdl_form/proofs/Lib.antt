pub mod StageRows
mod SideLists
