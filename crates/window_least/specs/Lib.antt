pub mod Windowed
