pub mod Scans
pub mod FirstReading
pub mod GroupReading
pub mod GroupMarks
pub mod Windowed
pub mod MemberSearch
