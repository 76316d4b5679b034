pub mod Weaves
