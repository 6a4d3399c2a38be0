pub mod ReadScripts
