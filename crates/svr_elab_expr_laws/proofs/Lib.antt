pub mod Clear
pub mod Ready
pub mod ReadFit
pub mod Named
pub mod HasTree
