pub mod DeclRules
