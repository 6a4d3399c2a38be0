pub mod ScriptRules
pub mod Found
pub mod Parse
