pub mod ComponentParts
