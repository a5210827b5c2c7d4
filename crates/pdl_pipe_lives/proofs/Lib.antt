pub mod LastStages
