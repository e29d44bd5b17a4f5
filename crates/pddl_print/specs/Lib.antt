pub mod Promise
pub mod Canonical
pub mod Spells
pub mod Layouts
pub mod CanonicalForms
pub mod CanonicalParts
pub mod Fronts
